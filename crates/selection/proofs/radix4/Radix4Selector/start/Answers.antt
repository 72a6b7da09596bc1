use Rattle.std.proofs.Common.{◌≡◌, ℕ, ◌*◌, ◌%◌, ◌^◌, ◌<◌, ◌≤◌, min, ap, mod-eq_of_lt, arith, pow_mono}
use Rattle.std.proofs.lemmas.Bool.Decides.{nat_tests}
use Rattle.selection.proofs.radix4.Radix4Selector.start.Goals as goal

-- a number below 2 ^ 35 compares with 3 * 2 ^ min k 34 as with 3 * 2 ^ k
module _ (k m y : ℕ) (is : m ≡ min k 34) (small : y < 2 ^ 35) where
  whole : (3 * 2 ^ m) % 2 ^ 64 ≡ 3 * 2 ^ m
  whole =
      let l : m ≤ 34 = omega arith in
      let p : 2 ^ m ≤ 2 ^ 34 = pow_mono l in
      mod-eq_of_lt (omega arith)

  less : y < (3 * 2 ^ m) % 2 ^ 64 → y < 3 * 2 ^ k
  less h =
      let l : m ≤ k = omega arith in
      let p : 2 ^ m ≤ 2 ^ k = pow_mono l in
      omega (arith, whole)

  not_less : (3 * 2 ^ m) % 2 ^ 64 ≤ y → 3 * 2 ^ k ≤ y
  not_less h =
      let e : m ≡ k = omega (arith, past) in
      let p : 2 ^ m ≡ 2 ^ k = ap (λ i. 2 ^ i) e in
      omega (arith, whole)
    where
      past : m ≡ 34 → ⊥
      past e = let p : 2 ^ m ≡ 2 ^ 34 = ap (λ i. 2 ^ i) e in omega (arith, whole)

pub returns-then-x-three : goal.returns-then-x-three
returns-then-x-three c =
    let two : 8 * c.args.x < 3 * 2 ^ c.args.k = less c.args.k c.min.result (8 * c.args.x) c.min.ensures (omega arith) (omega arith) in
    grind (arith, nat_tests)

pub returns-then-x-three-2 : goal.returns-then-x-three-2
returns-then-x-three-2 c =
    let not_two : 3 * 2 ^ c.args.k ≤ 8 * c.args.x = not_less c.args.k c.min.result (8 * c.args.x) c.min.ensures (omega arith) (omega arith) in
    let three : 4 * c.args.x < 3 * 2 ^ c.args.k = less c.args.k c.min.result (4 * c.args.x) c.min.ensures (omega arith) (omega arith) in
    grind (arith, nat_tests)

pub returns-else-x-three-2 : goal.returns-else-x-three-2
returns-else-x-three-2 c =
    let one : 3 * 2 ^ c.args.k ≤ 4 * c.args.x = not_less c.args.k c.min.result (4 * c.args.x) c.min.ensures (omega arith) (omega arith) in
    grind (arith, nat_tests)
