-- A solver for identities of the ring ℤ: `ring ρ e₁ e₂ refl : ⟦ e₁ ⟧ ρ ≡ ⟦ e₂ ⟧ ρ`, for expressions over the variables of the list ρ.
use Rattle.std.proofs.Common.{◌≡◌, ℕ, zero, suc, ◌+◌, ◌*◌, Bool, true, false, ◌&&◌, List, [], ◌∷◌, ℤ, pos, negsuc, ◌+ℤ◌, ◌-ℤ◌, ◌*ℤ◌, neg_ℤ, sym, refl, ap, ◌∙◌, ap₂, arith}
use Rattle.std.proofs.lemmas.Bool.{and_parts}
use lib.IntN.{+ℤ_idl, +ℤ_idr, +ℤ_assoc, +ℤ_comm, *ℤ_comm, *ℤ-zero, -ℤ-+ℤ_cancel}
use borrow.Author.Differences.{up, down, same_in, sum_is_lem, product_is, ints}

-- ---- the laws of ℤ that lib.IntN lacks
up_mul : (a b : ℤ) → up (a *ℤ b) ≡ up a * up b + down a * down b
up_mul a b = (product_is a b).0

down_mul : (a b : ℤ) → down (a *ℤ b) ≡ up a * down b + down a * up b
down_mul a b = (product_is a b).1

pub *ℤ_assoc : (a b c : ℤ) → (a *ℤ b) *ℤ c ≡ a *ℤ (b *ℤ c)
*ℤ_assoc a b c = same_in ((a *ℤ b) *ℤ c) (a *ℤ (b *ℤ c)) (simp (up_mul, down_mul) (omega arith))

pub *ℤ_add : (a b c : ℤ) → a *ℤ (b +ℤ c) ≡ a *ℤ b +ℤ a *ℤ c
*ℤ_add a b c = same_in (a *ℤ (b +ℤ c)) (a *ℤ b +ℤ a *ℤ c) (omega (arith, product_is a (b +ℤ c), sum_is_lem (a *ℤ b) (a *ℤ c), product_is a b, product_is a c, ap (λ t. up a * t) (sum_is_lem b c), ap (λ t. down a * t) (sum_is_lem b c)))

pub add_*ℤ : (a b c : ℤ) → (a +ℤ b) *ℤ c ≡ a *ℤ c +ℤ b *ℤ c
add_*ℤ a b c = *ℤ_comm (a +ℤ b) c ∙ *ℤ_add c a b ∙ ap₂ ◌+ℤ◌ (*ℤ_comm c a) (*ℤ_comm c b)

pub one_*ℤ : (a : ℤ) → pos 1 *ℤ a ≡ a
one_*ℤ a = omega (arith, ints)

pub neg_*ℤ : (a : ℤ) → negsuc 0 *ℤ a ≡ neg_ℤ a
neg_*ℤ a = omega (arith, ints)

-- (linear in the named integers, so `omega` proves them)
mid : (a b c d : ℤ) → (a +ℤ b) +ℤ (c +ℤ d) ≡ (a +ℤ c) +ℤ (b +ℤ d)
mid a b c d = omega (arith, ints)

left : (x a b : ℤ) → x *ℤ (a *ℤ b) ≡ a *ℤ (x *ℤ b)
left x a b = sym (*ℤ_assoc x a b) ∙ ap (λ t. t *ℤ b) (*ℤ_comm x a) ∙ *ℤ_assoc a x b

-- ---- polynomials in Horner's form: `hor p q` is p + x·q, where x is the first variable, p is over the others and q over all
pub data Pol : Type 0 where
  con : ℤ → Pol
  hor : Pol → Pol → Pol

abbrev pub head : List ℤ → ℤ
head [] = pos 0
head (x ∷ ρ) = x

abbrev pub tail : List ℤ → List ℤ
tail [] = []
tail (x ∷ ρ) = ρ

abbrev pub at : Pol → List ℤ → ℤ
at (con k) ρ = k
at (hor p q) ρ = at p (tail ρ) +ℤ head ρ *ℤ at q ρ

abbrev pub addc : ℤ → Pol → Pol
addc k (con l) = con (k +ℤ l)
addc k (hor p q) = hor (addc k p) q

abbrev pub plus : Pol → Pol → Pol
plus (con k) t = addc k t
plus (hor p q) (con l) = hor (addc l p) q
plus (hor p q) (hor p' q') = hor (plus p p') (plus q q')

abbrev pub scale : ℤ → Pol → Pol
scale k (con l) = con (k *ℤ l)
scale k (hor p q) = hor (scale k p) (scale k q)

-- f is the product with a polynomial over the other variables
abbrev pub under : (Pol → Pol) → Pol → Pol
under f (con l) = hor (f (con l)) (con (pos 0))
under f (hor p q) = hor (f p) (under f q)

abbrev pub times : Pol → Pol → Pol
times (con k) t = scale k t
times (hor p q) t = plus (under (times p) t) (hor (con (pos 0)) (times q t))

at_addc : (k : ℤ) (t : Pol) (ρ : List ℤ) → at (addc k t) ρ ≡ k +ℤ at t ρ
at_addc k (con l) ρ = refl
at_addc k (hor p q) ρ = ap (λ u. u +ℤ head ρ *ℤ at q ρ) (at_addc k p (tail ρ)) ∙ +ℤ_assoc k (at p (tail ρ)) (head ρ *ℤ at q ρ)

at_plus : (s t : Pol) (ρ : List ℤ) → at (plus s t) ρ ≡ at s ρ +ℤ at t ρ
at_plus (con k) t ρ = at_addc k t ρ
at_plus (hor p q) (con l) ρ = at_addc l (hor p q) ρ ∙ +ℤ_comm l (at (hor p q) ρ)
at_plus (hor p q) (hor p' q') ρ =
    ap₂ ◌+ℤ◌ (at_plus p p' (tail ρ)) (ap (λ u. head ρ *ℤ u) (at_plus q q' ρ) ∙ *ℤ_add (head ρ) (at q ρ) (at q' ρ))
    ∙ mid (at p (tail ρ)) (at p' (tail ρ)) (head ρ *ℤ at q ρ) (head ρ *ℤ at q' ρ)

at_scale : (k : ℤ) (t : Pol) (ρ : List ℤ) → at (scale k t) ρ ≡ k *ℤ at t ρ
at_scale k (con l) ρ = refl
at_scale k (hor p q) ρ = ap₂ ◌+ℤ◌ (at_scale k p (tail ρ)) (ap (λ u. head ρ *ℤ u) (at_scale k q ρ) ∙ left (head ρ) k (at q ρ)) ∙ sym (*ℤ_add k (at p (tail ρ)) (head ρ *ℤ at q ρ))

at_under : (f : Pol → Pol) (m : ℤ) (t : Pol) (ρ : List ℤ) → ((u : Pol) → at (f u) (tail ρ) ≡ m *ℤ at u (tail ρ)) → at (under f t) ρ ≡ m *ℤ at t ρ
at_under f m (con l) ρ h = ap₂ ◌+ℤ◌ (h (con l)) (*ℤ-zero (head ρ)) ∙ +ℤ_idr (m *ℤ l)
at_under f m (hor p q) ρ h = ap₂ ◌+ℤ◌ (h p) (ap (λ u. head ρ *ℤ u) (at_under f m q ρ h) ∙ left (head ρ) m (at q ρ)) ∙ sym (*ℤ_add m (at p (tail ρ)) (head ρ *ℤ at q ρ))

at_times : (s t : Pol) (ρ : List ℤ) → at (times s t) ρ ≡ at s ρ *ℤ at t ρ
at_times (con k) t ρ = at_scale k t ρ
at_times (hor p q) t ρ =
    at_plus (under (times p) t) (hor (con (pos 0)) (times q t)) ρ
    ∙ ap₂ ◌+ℤ◌ (at_under (times p) (at p (tail ρ)) t ρ (λ u. at_times p u (tail ρ))) (+ℤ_idl (head ρ *ℤ at (times q t) ρ) ∙ ap (λ u. head ρ *ℤ u) (at_times q t ρ) ∙ sym (*ℤ_assoc (head ρ) (at q ρ) (at t ρ)))
    ∙ sym (add_*ℤ (at p (tail ρ)) (head ρ *ℤ at q ρ) (at t ρ))

-- ---- expressions, as a goal has them
infixl 6 ◌⊕◌ ◌⊖◌
infixl 7 ◌⊗◌
pub data Exp : Type 0 where
  v : ℕ → Exp
  # : ℤ → Exp
  ◌⊕◌ ◌⊖◌ ◌⊗◌ : Exp → Exp → Exp
  neg : Exp → Exp

abbrev pub nth : List ℤ → ℕ → ℤ
nth ρ zero = head ρ
nth ρ (suc i) = nth (tail ρ) i

abbrev pub ⟦◌⟧ : Exp → List ℤ → ℤ
⟦ v i ⟧ ρ = nth ρ i
⟦ # k ⟧ ρ = k
⟦ a ⊕ b ⟧ ρ = ⟦ a ⟧ ρ +ℤ ⟦ b ⟧ ρ
⟦ a ⊖ b ⟧ ρ = ⟦ a ⟧ ρ -ℤ ⟦ b ⟧ ρ
⟦ a ⊗ b ⟧ ρ = ⟦ a ⟧ ρ *ℤ ⟦ b ⟧ ρ
⟦ neg a ⟧ ρ = neg_ℤ (⟦ a ⟧ ρ)

abbrev pub vp : ℕ → Pol
vp zero = hor (con (pos 0)) (con (pos 1))
vp (suc i) = hor (vp i) (con (pos 0))

abbrev pub norm : Exp → Pol
norm (v i) = vp i
norm (# k) = con k
norm (a ⊕ b) = plus (norm a) (norm b)
norm (a ⊖ b) = plus (norm a) (scale (negsuc 0) (norm b))
norm (a ⊗ b) = times (norm a) (norm b)
norm (neg a) = scale (negsuc 0) (norm a)

at_vp : (i : ℕ) (ρ : List ℤ) → at (vp i) ρ ≡ nth ρ i
at_vp zero ρ = +ℤ_idl (head ρ *ℤ pos 1) ∙ *ℤ_comm (head ρ) (pos 1) ∙ one_*ℤ (head ρ)
at_vp (suc i) ρ = ap₂ ◌+ℤ◌ (at_vp i (tail ρ)) (*ℤ-zero (head ρ)) ∙ +ℤ_idr (nth (tail ρ) i)

at_neg : (t : Pol) (ρ : List ℤ) (z : ℤ) → at t ρ ≡ z → at (scale (negsuc 0) t) ρ ≡ neg_ℤ z
at_neg t ρ z e = at_scale (negsuc 0) t ρ ∙ neg_*ℤ (at t ρ) ∙ ap neg_ℤ e

pub sound : (e : Exp) (ρ : List ℤ) → at (norm e) ρ ≡ ⟦ e ⟧ ρ
sound (v i) ρ = at_vp i ρ
sound (# k) ρ = refl
sound (a ⊕ b) ρ = at_plus (norm a) (norm b) ρ ∙ ap₂ ◌+ℤ◌ (sound a ρ) (sound b ρ)
sound (a ⊖ b) ρ = at_plus (norm a) (scale (negsuc 0) (norm b)) ρ ∙ ap₂ ◌+ℤ◌ (sound a ρ) (at_neg (norm b) ρ (⟦ b ⟧ ρ) (sound b ρ))
sound (a ⊗ b) ρ = at_times (norm a) (norm b) ρ ∙ ap₂ ◌*ℤ◌ (sound a ρ) (sound b ρ)
sound (neg a) ρ = at_neg (norm a) ρ (⟦ a ⟧ ρ) (sound a ρ)

-- ---- the test: every coefficient of the difference is 0
abbrev pub is_nil : ℤ → Bool
is_nil (pos zero) = true
is_nil (pos (suc n)) = false
is_nil (negsuc n) = false

abbrev pub nil : Pol → Bool
nil (con k) = is_nil k
nil (hor p q) = nil p && nil q

is_nil_is : (k : ℤ) → is_nil k ≡ true → k ≡ pos 0
is_nil_is (pos zero) e = refl
is_nil_is (pos (suc n)) e = cc
is_nil_is (negsuc n) e = cc

nil_at : (t : Pol) (ρ : List ℤ) → nil t ≡ true → at t ρ ≡ pos 0
nil_at (con k) ρ e = is_nil_is k e
nil_at (hor p q) ρ e =
    let h = and_parts (nil p) (nil q) e in
    ap₂ ◌+ℤ◌ (nil_at p (tail ρ) h.0) (ap (λ u. head ρ *ℤ u) (nil_at q ρ h.1) ∙ *ℤ-zero (head ρ))

pub ring : (ρ : List ℤ) (a b : Exp) → nil (norm (a ⊖ b)) ≡ true → ⟦ a ⟧ ρ ≡ ⟦ b ⟧ ρ
ring ρ a b e =
    let d : ⟦ a ⊖ b ⟧ ρ ≡ pos 0 = sym (sound (a ⊖ b) ρ) ∙ nil_at (norm (a ⊖ b)) ρ e in
    sym (-ℤ-+ℤ_cancel (⟦ a ⟧ ρ) (⟦ b ⟧ ρ)) ∙ ap (λ z. z +ℤ ⟦ b ⟧ ρ) d ∙ +ℤ_idl (⟦ b ⟧ ρ)

-- the same with the variables by name: `ring₂ a b (λ x y. (x ⊕ y) ⊗ x) (λ x y. x ⊗ x ⊕ y ⊗ x) refl`
pub ring₂ : (a b : ℤ) (f g : Exp → Exp → Exp) → nil (norm (f (v 0) (v 1) ⊖ g (v 0) (v 1))) ≡ true → ⟦ f (v 0) (v 1) ⟧ (a ∷ b ∷ []) ≡ ⟦ g (v 0) (v 1) ⟧ (a ∷ b ∷ [])
ring₂ a b f g e = ring (a ∷ b ∷ []) (f (v 0) (v 1)) (g (v 0) (v 1)) e

pub ring₃ : (a b c : ℤ) (f g : Exp → Exp → Exp → Exp) → nil (norm (f (v 0) (v 1) (v 2) ⊖ g (v 0) (v 1) (v 2))) ≡ true → ⟦ f (v 0) (v 1) (v 2) ⟧ (a ∷ b ∷ c ∷ []) ≡ ⟦ g (v 0) (v 1) (v 2) ⟧ (a ∷ b ∷ c ∷ [])
ring₃ a b c f g e = ring (a ∷ b ∷ c ∷ []) (f (v 0) (v 1) (v 2)) (g (v 0) (v 1) (v 2)) e

pub ring₄ : (a b c d : ℤ) (f g : Exp → Exp → Exp → Exp → Exp) → nil (norm (f (v 0) (v 1) (v 2) (v 3) ⊖ g (v 0) (v 1) (v 2) (v 3))) ≡ true → ⟦ f (v 0) (v 1) (v 2) (v 3) ⟧ (a ∷ b ∷ c ∷ d ∷ []) ≡ ⟦ g (v 0) (v 1) (v 2) (v 3) ⟧ (a ∷ b ∷ c ∷ d ∷ [])
ring₄ a b c d f g e = ring (a ∷ b ∷ c ∷ d ∷ []) (f (v 0) (v 1) (v 2) (v 3)) (g (v 0) (v 1) (v 2) (v 3)) e
