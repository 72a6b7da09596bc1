-- A square as a product, and what divides a power of two.
use Rattle.std.proofs.Common.{◌≡◌, ℕ, zero, suc, ◌+◌, ◌*◌, ◌/◌, ◌%◌, ◌^◌, ◌⊎◌, inl, inr, ⊎_elim, pow-suc, arith}
use native.Mathlib.Nat.{pow-zero}
use Rattle.std.proofs.lemmas.Bool.{cases_eq}

pub square : (a : ℕ) → a ^ 2 ≡ a * a
square a = rw (pow-suc a 1, pow-suc a 0, pow-zero a) (omega arith)

-- ---- what divides a power of two is one

halves : (a : ℕ) → ((q : ℕ) × (a ≡ q + q)) ⊎ ((q : ℕ) × (a ≡ suc (q + q)))
halves a = ⊎_elim (λ e. inl (a / 2, omega arith)) (λ e. inr (a / 2, omega arith)) (cases_eq (a % 2) 0)

of_one : (a b : ℕ) → a * b ≡ 1 → a ≡ 1
of_one zero b e = omega arith
of_one (suc a) zero e = absurd (omega arith)
of_one (suc a) (suc b) e = omega arith

odd_product : (p q N : ℕ) → suc (p + p) * suc (q + q) ≡ 2 * N → ⊥
odd_product p q N e = omega arith

pub factor : (n a b : ℕ) → a * b ≡ 2 ^ n → (i : ℕ) × (a ≡ 2 ^ i)
factor zero a b e = (0, of_one a b e)
factor (suc n) a b e = go (λ (a b : ℕ) (e : a * b ≡ 2 ^ n). factor n a b e) (halves a) (halves b)
  where
    go : ((a b : ℕ) → a * b ≡ 2 ^ n → (i : ℕ) × (a ≡ 2 ^ i)) →
        ((q : ℕ) × (a ≡ q + q)) ⊎ ((q : ℕ) × (a ≡ suc (q + q))) → ((q : ℕ) × (b ≡ q + q)) ⊎ ((q : ℕ) × (b ≡ suc (q + q))) → (i : ℕ) × (a ≡ 2 ^ i)
    go ih (inl p) y =
        let d : (p.0 + p.0) * b ≡ 2 ^ suc n = rw p.1 at e in
        let t = ih p.0 b (omega arith) in
        (suc t.0, omega (arith, p.1, t.1))
    go ih (inr p) (inl q) =
        let d : a * (q.0 + q.0) ≡ 2 ^ suc n = rw q.1 at e in
        ih a q.0 (omega arith)
    go ih (inr p) (inr q) =
        let d : suc (p.0 + p.0) * suc (q.0 + q.0) ≡ 2 ^ suc n = rw (p.1, q.1) at e in
        absurd (odd_product p.0 q.0 (2 ^ n) (omega arith))
