use Rattle.std.proofs.Common.{◌≡◌, ◌+◌, ◌-◌, ◌*◌, ◌^◌, ◌≤◌, false, ℤ, pos, neg_ℤ, ◌<ℤ◌, sym, ap, ◌∙◌, subst, arith, pow_mono, w64, SFits, to_z, of_z, rules}
use Rattle.std.proofs.lemmas.Bool.{le-ltb}
use Rattle.std.proofs.lemmas.Int.{ints, to_z-of_z}
use Rattle.arithmetic.proofs.Powers.{power_of_sum}
use Rattle.recurrence.specs.declared.registers.Partial.{Partial}
use Rattle.recurrence.specs.Recurrence.{complete, next_s, next_below}
use Rattle.recurrence.proofs.Conversion.{converted}
use Rattle.recurrence.proofs.Turning.{assembled, chosen_if}
use Rattle.recurrence.proofs.running.Running.turn.Goals as goal

pub append-partial-requires-clause-partial_fits : goal.append-partial-requires-clause-partial_fits
append-partial-requires-clause-partial_fits g c =
    let self = c.args.self.now in
    let top : 2 ^ (self.registers.q + 2) ≤ 2 ^ 30 = pow_mono {j = 30} (omega arith) in
    (omega arith, omega arith)

pub invariant_of-self : goal.invariant_of-self
invariant_of-self g c =
    let S = g.S.Selector.model c.args.make.now.selector.now in
    let u = c.args.self.now in
    let before = u.registers in
    let r = c.radix_of-radix.result in
    let p = before.place - c.bits_of-bits.result in
    let q : ℤ = to_z w64 (of_z w64 c.pick-choice.result.digit) in
    let least = c.pick-choice.ensures.least in
    let most = c.pick-choice.ensures.most in
    let low : neg_ℤ (pos r) <ℤ q = omega (arith, ints) in
    let high : q <ℤ pos r = omega (arith, ints) in
    let whole : 2 ^ before.place ≡ r * 2 ^ p = power_of_sum before.place S.bits p (omega (arith, c.if-before-bits.false)) ∙ ap (λ k. k * 2 ^ p) (sym c.radix_of-radix.ensures.is) in
    let v = converted (2 ^ (before.q + 2)) r p before.partial (omega (arith, u.below)) (omega (arith, u.most)) q low high in
    let s_is : c.append-partial.result.s ≡ next_s (pos r) q p before.partial = ap (λ (k : Partial). k.s) c.append-partial.ensures in
    let below_is : c.append-partial.result.below ≡ next_below (pos r) q p before.partial = ap (λ (k : Partial). k.below) c.append-partial.ensures in
    record {
      width = u.width;
      places = (u.places.0, u.places.1, omega arith);
      factor = u.factor;
      least = subst (λ k. 2 ^ p ≤ k) (sym s_is) v.least;
      most = subst (λ k. k + 2 ^ p ≤ 2 ^ (before.q + 2)) (sym s_is) v.most;
      below = ap (λ k. k + 2 ^ p) below_is ∙ v.below ∙ sym s_is;
    }

pub returns : goal.returns
returns g c =
    let S = g.S.Selector.model c.args.make.now.selector.now in
    let F = g.F.NumberForm.model c.args.make.now.form.now in
    let before = c.args.self.now.registers in
    let y = c.of-terms.result in
    let least = c.pick-choice.ensures.least in
    let most = c.pick-choice.ensures.most in
    let more : complete S before ≡ false = le-ltb before.place S.bits (omega (arith, c.if-before-bits.false, c.bits_of-bits.ensures.is)) in
    let digit : to_z w64 (of_z w64 c.pick-choice.result.digit) ≡ c.pick-choice.result.digit = omega (arith, ints) in
    let term : to_z w64 (of_z w64 c.at_place.result) ≡ c.at_place.result = omega (arith, ints) in
    let once : SFits w64 y.once = search rules in
    let shifted : c.shift-shifted.result ≡ F.shift S.bits before.residual = c.shift-shifted.ensures ∙ ap (λ k. F.shift k before.residual) c.shift_by.ensures in
    record {
      tells = chosen_if S F before shifted c.pick-choice.ensures.is more;
      after = assembled S F before digit term (to_z-of_z w64 y.once once)
          c.bits_of-bits.ensures.is c.radix_of-radix.ensures.is c.from.ensures shifted c.pick-choice.ensures.is
          c.at_place.ensures.is c.of-terms.ensures c.reduce-residual.ensures c.add-product.ensures c.append-partial.ensures more;
    }
