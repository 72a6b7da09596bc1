-- Squares of a value and of its double, against a root that lies between f and f + 1 halves of a unit.
use Rattle.std.proofs.Common.{◌≡◌, ℕ, ◌+◌, ◌*◌, ◌^◌, ◌<◌, ◌≤◌, ap, mul-le-mul_right, mul-le-mul, mul-lt-mul_of_pos_right, arith}
use Rattle.arithmetic.proofs.Squares.{square}

-- ---- the order of squares

pub square_lt : (a b V : ℕ) → 0 < V → a < b → a ^ 2 * V < b ^ 2 * V
square_lt a b V p h = rw (square a, square b) (mul-lt-mul_of_pos_right {m = a * a} {n = b * b} (omega (arith, mul-le-mul h h)) p)

pub square_of_sum : (a : ℕ) → (a + a) ^ 2 ≡ 4 * a ^ 2
square_of_sum a = rw (square (a + a), square a) (omega arith)

-- Numbers counted in D, against a root between f and f + 1 of them. V * D ^ 2 is x * T, and 4 * G is H * T.
module _ (D V x T H G f : ℕ) (same : D * D * V ≡ x * T) (four : 4 * G ≡ H * T) (T_pos : 0 < T) (fits : x * (f * f) < H) (beyond : H < x * ((f + 1) * (f + 1))) where
  pub short : (P : ℕ) → P ≤ f * D → P ^ 2 * V < 4 * G
  short P h = rw (square P) (omega (arith, mul-le-mul_right V (mul-le-mul h h), ap (λ (z : ℕ). f * f * z) same, mul-lt-mul_of_pos_right fits T_pos))

  pub long : (P : ℕ) → (f + 1) * D ≤ P → 4 * G < P ^ 2 * V
  long P h = rw (square P) (omega (arith, mul-le-mul_right V (mul-le-mul h h), ap (λ (z : ℕ). (f + 1) * (f + 1) * z) same, mul-lt-mul_of_pos_right beyond T_pos))

  pub less : (U : ℕ) → U + U ≤ f * D → U ^ 2 * V < G
  less U h = let s : (U + U) ^ 2 * V < 4 * G = short (U + U) h in let d : 4 * U ^ 2 * V < 4 * G = rw (square_of_sum U) at s in omega arith

  pub more : (U : ℕ) → (f + 1) * D ≤ U + U → G < U ^ 2 * V
  more U h = let s : 4 * G < (U + U) ^ 2 * V = long (U + U) h in let d : 4 * G < 4 * U ^ 2 * V = rw (square_of_sum U) at s in omega arith
