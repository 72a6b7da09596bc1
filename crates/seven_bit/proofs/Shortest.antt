-- A number is read exactly where its shortest form stands.
use Rattle.std.proofs.Common.{◌≡◌, ℕ, zero, suc, ◌+◌, ◌-◌, ◌*◌, ◌/◌, ◌%◌, ◌^◌, ◌<◌, ◌≤◌, Bool, true, false, cond, eqb, ltb, List, [], ◌∷◌, ◌++◌, Ok, Err, sym, refl, ap, ◌∙◌, ⊎_elim, arith, ltb-false, ltb-true, le-ltb, lt-ltb, ne_eqb}
use borrow.Author.Tests.{eqb-false}
use Rattle.std.proofs.lemmas.Bool.{cases_lt}
use Rattle.seven_bit.specs.declared.fault.NumberFault.TheVariants.{Malformed}
use Rattle.seven_bit.specs.Numbers.{groups, Read, after_group, number_of, Bytes, ShortestRead}

-- `cc` takes a constructor apart, and not a pair
both : (v w : ℕ) (ys zs : List ℕ) → ◌≡◌ {A = Read} (Ok (v, ys)) (Ok (w, zs)) → (v ≡ w) × (ys ≡ zs)
both v w ys zs e = let p : ◌≡◌ {A = ℕ × List ℕ} (v, ys) (w, zs) = cc in (ap (λ (q : ℕ × List ℕ). q.0) p, ap (λ (q : ℕ × List ℕ). q.1) p)

-- the numbers of at most k + 1 groups lie below this
abbrev pub bound : ℕ → ℕ
bound zero = 128
bound (suc k) = 128 * bound k

pub single : (k b : ℕ) → b < 128 → groups k b ≡ b ∷ []
single zero b h = refl
single (suc k) b h = rw (lt-ltb b 128 h)

-- the groups of a number that has more than one
pub more : (k v : ℕ) → 128 ≤ v → groups (suc k) v ≡ (128 + v % 128) ∷ groups k (v / 128)
more k v h = rw (le-ltb v 128 h)

-- one group more is read
step : (k b : ℕ) (bs : List ℕ) (w : ℕ) (ys : List ℕ) → 128 ≤ b → number_of k bs ≡ Ok (w, ys) → (w ≡ 0 → ⊥) → w < (2 ^ 25) → number_of (suc k) (b ∷ bs) ≡ Ok (b - 128 + 128 * w, ys)
step k b bs w ys l e n h =
    let nz : suc k ≡ 0 → ⊥ = λ z. omega arith in
    let down : suc k - 1 ≡ k = omega arith in
    rw (le-ltb b 128 l, ne_eqb (suc k) 0 nz, down, e, ne_eqb w 0 n, lt-ltb w (2 ^ 25) h)

read_back : (k v : ℕ) (ys : List ℕ) → v < 2 ^ 32 → v < bound k → number_of k (groups k v ++ ys) ≡ Ok (v, ys)
read_back zero v ys h l = rw (lt-ltb v 128 l)
read_back (suc k) v ys h l =
    ⊎_elim
    (λ p. rw (single (suc k) v p) (rw (lt-ltb v 128 p)))
    (λ p.
    let low : 128 ≤ 128 + v % 128 = omega arith in
    let small : v / 128 < 2 ^ 32 = omega arith in
    let short : v / 128 < bound k = omega arith in
    let some : v / 128 ≡ 0 → ⊥ = λ z. omega arith in
    let fits : v / 128 < (2 ^ 25) = omega arith in
    let is : 128 + v % 128 - 128 + 128 * (v / 128) ≡ v = omega arith in
    let read : number_of (suc k) ((128 + v % 128) ∷ (groups k (v / 128) ++ ys)) ≡ Ok (128 + v % 128 - 128 + 128 * (v / 128), ys)
    = step k (128 + v % 128) (groups k (v / 128) ++ ys) (v / 128) ys low (read_back k (v / 128) ys small short) some fits in
    ap (λ (l : List ℕ). number_of (suc k) (l ++ ys)) (more k v p) ∙ read ∙ ap (λ (x : ℕ). Ok (x, ys)) is)
    (cases_lt v 128)

group_parts : (b : ℕ) (r : Read) (v : ℕ) (ys : List ℕ) → after_group b r ≡ Ok (v, ys) → (w : ℕ) × (r ≡ Ok (w, ys)) × (w ≡ 0 → ⊥) × (w < (2 ^ 25)) × (v ≡ b - 128 + 128 * w)
group_parts b (Err d) v ys e = cc
group_parts b (Ok p) v ys e = go (eqb p.0 0) (ltb p.0 (2 ^ 25)) (eqb-false p.0 0) (ltb-true p.0 (2 ^ 25)) e
  where
    go : (s t : Bool) → (s ≡ false → p.0 ≡ 0 → ⊥) → (t ≡ true → p.0 < (2 ^ 25)) → ◌≡◌ {A = Read} (cond s (Err Malformed) (cond t (Ok (b - 128 + 128 * p.0, p.1)) (Err Malformed))) (Ok (v, ys))
        → (w : ℕ) × (◌≡◌ {A = Read} (Ok p) (Ok (w, ys))) × (w ≡ 0 → ⊥) × (w < (2 ^ 25)) × (v ≡ b - 128 + 128 * w)
    go true t f g d = cc
    go false false f g d = cc
    go false true f g d = let q = both (b - 128 + 128 * p.0) v p.1 ys d in (p.0, ap (λ (y : List ℕ). Ok (p.0, y)) q.1, f refl, g refl, sym q.0)

sound : (k : ℕ) (xs : List ℕ) (v : ℕ) (ys : List ℕ) → Bytes xs → number_of k xs ≡ Ok (v, ys) → (xs ≡ groups k v ++ ys) × (v < 2 ^ 32)
sound k [] v ys B e = cc
sound k (b ∷ bs) v ys B e = go (λ w f. sound (k - 1) bs w ys (λ i. B (suc i)) f) (ltb b 128) (eqb k 0) (ltb-true b 128) (ltb-false b 128) (eqb-false k 0) e
  where
    go : ((w : ℕ) → number_of (k - 1) bs ≡ Ok (w, ys) → (bs ≡ groups (k - 1) w ++ ys) × (w < 2 ^ 32)) → (s t : Bool) → (s ≡ true → b < 128) → (s ≡ false → 128 ≤ b) → (t ≡ false → k ≡ 0 → ⊥)
        → ◌≡◌ {A = Read} (cond s (Ok (b, bs)) (cond t (Err Malformed) (after_group b (number_of (k - 1) bs)))) (Ok (v, ys)) → (b ∷ bs ≡ groups k v ++ ys) × (v < 2 ^ 32)
    go h true t f g n d =
        let q = both b v bs ys d in
        let lt = f refl in
        let is : groups k v ≡ v ∷ [] = single k v (omega (arith, q.0)) in
        (rw is (cc (q.0, q.1)), omega (arith, q.0))
    go h false true f g n d = cc
    go h false false f g n d =
        let p = group_parts b (number_of (k - 1) bs) v ys d in
        let ih = h p.0 p.1 in
        let l : 128 ≤ b = g refl in
        let m : b < 256 = B 0 in
        let nz = p.2 in
        let nk = n refl in
        let up : k ≡ suc (k - 1) = omega arith in
        let low : 128 + v % 128 ≡ b = omega (arith, p.4) in
        let high : v / 128 ≡ p.0 = omega (arith, p.4) in
        let gs : groups k v ≡ b ∷ groups (k - 1) p.0 = ap (λ (x : ℕ). groups x v) up ∙ more (k - 1) v (omega (arith, p.4)) ∙ cc (low, high) in
        (rw gs (ap (λ (x : List ℕ). b ∷ x) ih.0), omega (arith, p.4, p.3))

pub shortest_read : ShortestRead
shortest_read =
    record {
      back = λ v ys h. read_back 4 v ys h (omega arith);
      only = λ xs v ys B e. sound 4 xs v ys B e;
    }
