-- What is left after a record is a last part of the bytes, and a label is no longer than they are.
use Rattle.std.proofs.Common.{◌≡◌, ℕ, suc, ◌+◌, ◌-◌, ◌^◌, ◌<◌, ◌≤◌, Bool, true, false, cond, eqb, ltb, List, [], ◌∷◌, length, take, drop, Ok, Err, Result, sym, refl, ap, ◌∙◌, subst, arith, length-drop, length-take, ltb-false}
use Rattle.std.proofs.lemmas.List.{take_rest, drop-drop}
use Rattle.seven_bit.specs.declared.fault.NumberFault.TheVariants.{Malformed, Cut as NumberCut}
use Rattle.seven_bit.specs.Numbers.{Read, after_group, number_of, number_at}
use Rattle.protocol.specs.declared.call.Name.{Name}
use Rattle.records.specs.declared.defect.Defect.{Defect}
use Rattle.records.specs.declared.defect.Defect.TheVariants.{Unknown, Wrong, Cut}
use Rattle.records.specs.declared.kind.Kind.{Kind}
use Rattle.records.specs.declared.kind.Kind.TheVariants as kind_is
use Rattle.records.specs.Records.{Item, label_length, Front, Reading, then, in_record, numbered, named, so_many, labelled, kind_of, kind_then, body_at, Got, record_at}
use Rattle.records.specs.Reading.{placed}

module _ (xs : List ℕ) where
  -- a last part of the bytes
  abbrev Last : List ℕ → Type 0
  Last ys = (n : ℕ) × (ys ≡ drop n xs) × (n ≤ length xs)

  further : (n : ℕ) (ys : List ℕ) → Last ys → n ≤ length ys → Last (drop n ys)
  further n ys l h =
      (l.0 + n, ap (λ (zs : List ℕ). drop n zs) l.1 ∙ drop-drop n l.0 xs, omega (arith, l.2, h, ap length l.1, length-drop l.0 xs))

  -- What is read leaves a last part of the bytes, and is no longer than they are.
  abbrev Leaves : {A E : Type 0} → (A → ℕ) → Result (A × List ℕ) E → Type 0
  Leaves size (Ok p) = Last p.1 × (size p.0 ≤ length xs)
  Leaves size (Err e) = Unit {0}

  leaves_by : {A E : Type 0} (size : A → ℕ) (b : Bool) (r s : Result (A × List ℕ) E) → Leaves size r → Leaves size s → Leaves size (cond b r s)
  leaves_by size true r s p q = p
  leaves_by size false r s p q = q

  then_leaves : {A B : Type 0} (size : A → ℕ) (size' : B → ℕ) (r : Front A) (f : A → Reading B) → Leaves size r →
      ((a : A) (ys : List ℕ) → Last ys → size a ≤ length xs → Leaves size' (f a ys)) → Leaves size' (then r f)
  then_leaves size size' (Ok p) f l h = h p.0 p.1 l.0 l.1
  then_leaves size size' (Err e) f l h = tt

  abbrev none : {A : Type 0} → A → ℕ
  none a = 0

  group_leaves : (b : ℕ) (r : Read) → Leaves none r → Leaves none (after_group b r)
  group_leaves b (Ok p) h = leaves_by none (eqb p.0 0) _ _ tt (leaves_by none (ltb p.0 (2 ^ 25)) _ _ h tt)
  group_leaves b (Err e) h = tt

  groups_leave : (k : ℕ) (ys : List ℕ) → Last ys → Leaves none (number_of k ys)
  groups_leave k [] l = tt
  groups_leave k (b ∷ bs) l =
      let m : Last bs = further 1 (b ∷ bs) l (omega arith) in
      leaves_by none (ltb b 128) _ _ (m, omega arith) (leaves_by none (eqb k 0) _ _ tt (group_leaves b (number_of (k - 1) bs) (groups_leave (k - 1) bs m)))

  numbered_leaves : (ys : List ℕ) → Last ys → Leaves none (numbered ys)
  numbered_leaves ys l = go (number_at ys) (groups_leave 4 ys l)
    where
      go : (r : Read) → Leaves none r → Leaves none (in_record (length ys) r)
      go (Ok p) h = h
      go (Err Malformed) h = tt
      go (Err NumberCut) h = tt

  -- a number first, and then what leaves a last part
  after_number : {B : Type 0} (size : B → ℕ) (f : ℕ → Reading B) (ys : List ℕ) → Last ys → ((n : ℕ) (zs : List ℕ) → Last zs → Leaves size (f n zs)) → Leaves size (then (numbered ys) f)
  after_number size f ys l h = then_leaves none size (numbered ys) f (numbered_leaves ys l) (λ n zs m s. h n zs m)

  after_name : (f : Name → Reading Item) (ys : List ℕ) → Last ys → ((h : Name) (zs : List ℕ) → Last zs → Leaves label_length (f h zs)) → Leaves label_length (then (named ys) f)
  after_name f ys l h =
      then_leaves none label_length (named ys) f (after_number none _ ys l (λ lane zs m. after_number none _ zs m (λ serial ws k. (k, omega arith)))) (λ n zs m s. h n zs m)

  labelled_leaves : (ys : List ℕ) → Last ys → Leaves length (labelled ys)
  labelled_leaves ys l = after_number length so_many ys l (λ n zs m. go n zs m (ltb (length zs) n) (λ f. ltb-false (length zs) n f))
    where
      go : (n : ℕ) (zs : List ℕ) → Last zs → (t : Bool) → (t ≡ false → n ≤ length zs) → Leaves length (cond {A = Front (List ℕ)} t (Err Cut) (Ok (take n zs, drop n zs)))
      go n zs m true h = tt
      go n zs m false h = (further n zs m (h refl), omega (arith, h refl, m.2, ap length m.1, length-drop m.0 xs, length-take n zs))

  body_leaves : (k : Kind) (ys : List ℕ) → Last ys → Leaves label_length (body_at k ys)
  body_leaves kind_is.Note ys l = then_leaves length label_length (labelled ys) _ (labelled_leaves ys l) (λ a zs m s. (m, s))
  body_leaves kind_is.Tick ys l = after_number label_length _ ys l (λ n zs m. (m, omega arith))
  body_leaves kind_is.Take ys l = after_number label_length _ ys l (λ n zs m. after_number label_length _ zs m (λ n zs m. (m, omega arith)))
  body_leaves kind_is.Load ys l =
      after_name _ ys l
      (λ h ys l. after_number label_length _ ys l (λ n zs m. after_number label_length _ zs m (λ n zs m. after_number label_length _ zs m (λ n zs m. (m, omega arith)))))
  body_leaves kind_is.Load32 ys l = after_name _ ys l (λ h zs m. after_number label_length _ zs m (λ n zs m. (m, omega arith)))
  body_leaves kind_is.Step ys l = after_name _ ys l (λ h zs m. after_number label_length _ zs m (λ n zs m. (m, omega arith)))
  body_leaves kind_is.Look ys l = after_name _ ys l (λ h zs m. (m, omega arith))
  body_leaves kind_is.Collect ys l = after_name _ ys l (λ h zs m. after_number label_length _ zs m (λ n zs m. (m, omega arith)))
  body_leaves kind_is.Give ys l = after_name _ ys l (λ h zs m. (m, omega arith))
  body_leaves kind_is.Marks ys l = (l, omega arith)

record_leaves : (b : ℕ) (bs : List ℕ) → Leaves bs label_length (record_at (b ∷ bs))
record_leaves b bs = go (kind_of b)
  where
    go : (r : Result Kind Defect) → Leaves bs label_length (then (kind_then r bs) body_at)
    go (Ok k) = body_leaves bs k bs (0, refl, omega arith)
    go (Err e) = tt

-- A record is read at a place, and so many bytes are left after it.
pub record Onward (input : List ℕ) (at left : ℕ) (i : Item) : Type 0 where
  pub fits : left ≤ length input
  pub ahead : at < length input - left
  pub short : label_length i ≤ length input
  pub reads : record_at (drop at input) ≡ Ok (i, drop (length input - left) input)

pub onward : (input : List ℕ) (at : ℕ) (i : Item) (after : List ℕ) → at ≤ length input → record_at (take (length input - at) (drop at input)) ≡ Ok (i, after) → Onward input at (length after) i
onward input at i after h e = go (drop at input) refl (ap record_at (sym (take_rest input at)) ∙ e)
  where
    go : (bytes : List ℕ) → drop at input ≡ bytes → record_at bytes ≡ Ok (i, after) → Onward input at (length after) i
    go [] s f = cc
    go (b ∷ bs) s f =
        let l : Last bs after × (label_length i ≤ length bs) = subst (λ (r : Got). Leaves bs label_length r) f (record_leaves b bs) in
        let w = l.0 in
        let short = l.1 in
        let is : after ≡ drop (at + suc w.0) input = w.1 ∙ ap (drop (suc w.0)) (sym s) ∙ drop-drop (suc w.0) at input in
        let n : length after ≡ length bs - w.0 = ap length w.1 ∙ length-drop w.0 bs in
        let m : length input ≡ at + suc (length bs) = omega (arith, ap length s, length-drop at input) in
        let place : at + suc w.0 ≡ length input - length after = omega (arith, w.2) in
        record {
          fits = omega arith;
          ahead = omega (arith, w.2);
          short = omega arith;
          reads = ap record_at s ∙ f ∙ ap (λ (x : List ℕ). Ok (i, x)) (is ∙ ap (λ (x : ℕ). drop x input) place);
        }

pub placed_within : (n p : ℕ) (b : Defect) → p ≤ n → (placed n p b).place ≤ n
placed_within n p Unknown h = h
placed_within n p (Wrong left) h = omega arith
placed_within n p Cut h = omega arith
