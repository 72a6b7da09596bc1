-- Estimates of words that mean a number are estimates of the number.
use Rattle.std.proofs.Common.{◌≡◌, ℕ, suc, ◌+◌, ◌-◌, ◌*◌, ◌^◌, ◌<◌, ◌≤◌, ℤ, pos, ◌+ℤ◌, ◌*ℤ◌, neg_ℤ, ◌≤ℤ◌, ◌<ℤ◌, sym, mul-le-mul_right, arith, pow_mono}
use borrow.Author.Differences.{ints, up, down}
use Rattle.arithmetic.specs.Residues.{Congruent}
use Rattle.arithmetic.specs.Estimates.{shortfall, Estimates}
use Rattle.arithmetic.proofs.Ring.{add_*ℤ}
use Rattle.arithmetic.proofs.Powers.{power_of_sum}
use Rattle.arithmetic.proofs.Congruence.{cong_sym, cong_trans, cong_near, Size}
use Rattle.number_form.specs.declared.words.Words.{Words}
use Rattle.number_form.specs.Forms.{FormModel, Fit, LawfulForm}

-- an estimate of words that mean a number of size below 2 ^ 62 is an estimate of the number
pub estimates : (F : FormModel) → LawfulForm shortfall F → (n t : ℕ) (w : Words) (z : ℤ) → n ≤ 60 → Fit F w → Congruent (F.meaning w) z → Size (2 ^ 62) z → Estimates shortfall n t (F.estimate (n - t) w) z
estimates F L n t w z small fits means size = record { not_over = omega (arith, ints, equal); not_far = rw add_*ℤ (omega (arith, ints, equal, e.1)) }
  where
    u : ℕ
    u = n - t

    U : ℕ
    U = 2 ^ (n - t)

    low_enough : n - t ≤ 60
    low_enough = omega arith

    E : ℤ
    E = F.estimate (n - t) w

    e : (e : ℕ) × (e < 2 * 2 ^ (n - t)) × Congruent (F.meaning w) (E *ℤ pos (2 ^ (n - t)) +ℤ pos e)
    e = L.estimate_short (n - t) w low_enough fits

    range : (neg_ℤ (pos (2 ^ (63 - (n - t)))) ≤ℤ E) × (E <ℤ pos (2 ^ (63 - (n - t))))
    range = L.estimate_range (n - t) w low_enough fits

    full : 2 ^ (63 - (n - t)) * U ≡ 2 ^ 63
    full = sym (power_of_sum 63 (63 - (n - t)) (n - t) (omega arith))

    unit : U ≤ 2 ^ 60
    unit = pow_mono low_enough

    above : down E * U ≤ (up E + 2 ^ (63 - (n - t))) * U
    above = mul-le-mul_right U (omega (arith, ints, range.0))

    below : suc (up E) * U ≤ (down E + 2 ^ (63 - (n - t))) * U
    below = mul-le-mul_right U (omega (arith, ints, range.1))

    same : Congruent z (E *ℤ pos U +ℤ pos e.0)
    same = cong_trans z (F.meaning w) (E *ℤ pos U +ℤ pos e.0) (cong_sym (F.meaning w) z means) e.2

    equal : z ≡ E *ℤ pos U +ℤ pos e.0
    equal = cong_near z (E *ℤ pos U +ℤ pos e.0) same (omega (arith, ints, above, below, full, unit, e.1)) (omega (arith, ints, above, below, full, unit, e.1))
