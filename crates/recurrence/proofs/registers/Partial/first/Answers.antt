use Rattle.std.proofs.Common.{◌≡◌, ℕ, ◌+◌, ◌-◌, ◌*◌, ◌%◌, ◌^◌, ◌≤◌, mod-eq_of_lt, arith}
use Rattle.selection.specs.declared.start.Start.{Start}
use Rattle.selection.specs.Starts.{halves}
use Rattle.recurrence.specs.declared.registers.Partial.{Partial}
use Rattle.recurrence.specs.Recurrence.{first_partial}
use Rattle.recurrence.proofs.Starting.{halves_least, halves_most, start_size, InPartial}
use Rattle.recurrence.proofs.registers.Partial.first.Goals as goal

-- the start as the code shifts it, with the facts of its size
word : (q h : ℕ) → InPartial q (h * 2 ^ (q - 1)) → (h * 2 ^ (q - 1)) % 2 ^ 32 ≡ h * 2 ^ (q - 1)
word q h s = mod-eq_of_lt (omega (arith, s.fits))

unit : (q h : ℕ) → InPartial q (h * 2 ^ (q - 1)) → (1 * 2 ^ q) % 2 ^ 32 ≡ 2 ^ q
unit q h s = let one : 1 * 2 ^ q ≡ 2 ^ q = omega arith in rw one (mod-eq_of_lt (omega (arith, s.fits, s.least)))

pub overflow_sub-result : goal.overflow_sub-result
overflow_sub-result c =
    let q = c.args.operand.q in
    let h = c.halves.result in
    let s = start_size q h (omega arith) (omega arith) (omega (arith, halves_least c.args.start)) (omega (arith, halves_most c.args.start)) in
    omega (arith, word q h s, unit q h s, s.least)

whole : (q h : ℕ) (start : Start) → h ≡ halves start → InPartial q (h * 2 ^ (q - 1)) →
    record {
      is : ◌≡◌ {A = Partial} (record { s = (h * 2 ^ (q - 1)) % 2 ^ 32; below = (h * 2 ^ (q - 1)) % 2 ^ 32 - (1 * 2 ^ q) % 2 ^ 32 }) (first_partial q start);
      least : 2 ^ q ≤ (h * 2 ^ (q - 1)) % 2 ^ 32;
      most : (h * 2 ^ (q - 1)) % 2 ^ 32 + 2 ^ q ≤ 2 ^ (q + 2);
      below : (h * 2 ^ (q - 1)) % 2 ^ 32 - (1 * 2 ^ q) % 2 ^ 32 + 2 ^ q ≡ (h * 2 ^ (q - 1)) % 2 ^ 32;
    }
whole q h start e s =
    let w = word q h s in
    let u = unit q h s in
    record {
      is = cc;
      least = omega (arith, s.least);
      most = omega (arith, s.most);
      below = omega (arith, s.least);
    }

pub returns : goal.returns
returns c =
    let q = c.args.operand.q in
    let h = c.halves.result in
    let s = start_size q h (omega arith) (omega arith) (omega (arith, halves_least c.args.start)) (omega (arith, halves_most c.args.start)) in
    let r = whole q h c.args.start c.halves.ensures s in
    record { is = r.is; least = r.least; most = r.most; below = r.below }
