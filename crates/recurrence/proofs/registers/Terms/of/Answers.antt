use Rattle.std.proofs.Common.{◌≡◌, ◌^◌, ◌≤◌, ℤ, pos, negsuc, ◌-ℤ◌, ◌*ℤ◌, neg_ℤ, nat_abs, ◌≤ℤ◌, ◌<ℤ◌, arith, w64, SFits}
use lib.IntN.{+ℤ_idl}
use Rattle.std.proofs.lemmas.Int.{ints, to_z-of_z}
use Rattle.recurrence.specs.declared.registers.Terms.{Terms}
use Rattle.recurrence.specs.Recurrence.{terms}
use Rattle.recurrence.proofs.Products.{digit_times}
use Rattle.recurrence.proofs.registers.Terms.of.Goals as goal

record Small (q t : ℤ) : Type 0 where
  digit : SFits w64 q
  term : SFits w64 t
  multiple : SFits w64 (negsuc 1 *ℤ q)
  once : SFits w64 (q *ℤ t)
  square : SFits w64 (q *ℤ (q *ℤ t))
  less : SFits w64 (pos 0 -ℤ q *ℤ (q *ℤ t))

small : (q t : ℤ) → negsuc 3 <ℤ q → q <ℤ pos 4 → pos 0 ≤ℤ t → t ≤ℤ pos (2 ^ 56) → Small q t
small q t l h p r =
    let few : nat_abs q ≤ 3 = omega (arith, ints) in
    let m = digit_times q t few in
    let n = digit_times q (q *ℤ t) few in
    record {
      digit = omega (arith, ints);
      term = omega (arith, ints);
      multiple = omega (arith, ints);
      once = omega (arith, ints);
      square = omega (arith, ints);
      less = omega (arith, ints);
    }

-- as the code has them
as_terms : (q t : ℤ) → ◌≡◌ {A = Terms} (record { multiple = negsuc 1 *ℤ q; square = pos 0 -ℤ q *ℤ (q *ℤ t); once = q *ℤ t }) (terms q t)
as_terms q t =
    let e : negsuc 1 *ℤ q ≡ neg_ℤ (pos 2 *ℤ q) = omega (arith, ints) in
    let f = +ℤ_idl (neg_ℤ (q *ℤ (q *ℤ t))) in
    cc

pub overflow_sub-result : goal.overflow_sub-result
overflow_sub-result c =
    let s = small c.args.digit c.args.term c.requires.digit_fits.0 c.requires.digit_fits.1 c.requires.term_fits.0 c.requires.term_fits.1 in
    let a = s.digit in
    let b = s.term in
    let d = s.once in
    let e = s.square in
    simp to_z-of_z s.less

pub returns : goal.returns
returns c =
    let s = small c.args.digit c.args.term c.requires.digit_fits.0 c.requires.digit_fits.1 c.requires.term_fits.0 c.requires.term_fits.1 in
    let a = s.digit in
    let b = s.term in
    let t = s.multiple in
    let d = s.once in
    let e = s.square in
    let f = s.less in
    simp to_z-of_z (as_terms c.args.digit c.args.term)

pub overflow_mul-result-2 : goal.overflow_mul-result-2
overflow_mul-result-2 c =
    let s = small c.args.digit c.args.term c.requires.digit_fits.0 c.requires.digit_fits.1 c.requires.term_fits.0 c.requires.term_fits.1 in
    let a = s.digit in
    let b = s.term in
    let d = s.once in
    simp to_z-of_z s.square
