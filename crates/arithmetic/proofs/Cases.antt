-- Cases that cannot be.
use Rattle.std.proofs.Common.{◌≡◌, ℕ, arith}

-- what equates two different cases equates 0 and 1
pub clash : {A : Type 0} → ◌≡◌ {A = ℕ} 0 1 → A
clash e = absurd (omega arith)
