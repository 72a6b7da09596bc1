-- A number's groups, written one after the other.
use Rattle.std.proofs.Common.{◌≡◌, ℕ, zero, suc, ◌+◌, ◌%◌, ◌/◌, ◌^◌, ◌<◌, ◌≤◌, Bool, true, false, cond, nat_lt, List, [], ◌∷◌, ◌++◌, length, sym, ap, ◌∙◌, append_assoc, arith, length-append}
use Rattle.seven_bit.specs.Numbers.{groups, encoded}
use Rattle.seven_bit.proofs.Shortest.{bound, single, more}

-- Some groups of a number are written, and the rest has at most so many groups beside the next.
pub record Partway (written : List ℕ) (rest number : ℕ) : Type 0 where
  pub left : ℕ
  pub count : length written + left ≡ 4
  pub small : rest < bound left
  pub is : written ++ groups left rest ≡ encoded number

pub begun : (written : List ℕ) (number : ℕ) → written ≡ [] → number < 2 ^ 32 → Partway written number number
begun written number w h = record { left = 4; count = omega (arith, ap length w); small = omega arith; is = ap (λ (l : List ℕ). l ++ groups 4 number) w }

pub one_more : (written : List ℕ) (rest number : ℕ) (next : List ℕ) → 128 ≤ rest → Partway written rest number → next ≡ written ++ (128 + rest % 128) ∷ [] → Partway next (rest / 128) number
one_more written rest number next h p n = go p.left p.count p.small p.is
  where
    go : (left : ℕ) → length written + left ≡ 4 → rest < bound left → written ++ groups left rest ≡ encoded number → Partway next (rest / 128) number
    go zero c s e = absurd (omega arith)
    go (suc k) c s e =
        record {
          left = k;
          count = omega (arith, ap length n, length-append written ((128 + rest % 128) ∷ []));
          small = omega arith;
          is =
              ap (λ (l : List ℕ). l ++ groups k (rest / 128)) n ∙ append_assoc written ((128 + rest % 128) ∷ []) (groups k (rest / 128)) ∙
              ap (λ (l : List ℕ). written ++ l) (sym (more k rest h)) ∙ e;
        }

pub finished : (written : List ℕ) (rest number : ℕ) → rest < 128 → Partway written rest number → written ++ rest ∷ [] ≡ encoded number
finished written rest number h p = ap (λ (l : List ℕ). written ++ l) (sym (single p.left rest h)) ∙ p.is

-- a number has at least one group
pub some : (k v : ℕ) → 1 ≤ length (groups k v)
some zero v = omega arith
some (suc k) v = go (nat_lt v 128)
  where
    go : (b : Bool) → 1 ≤ length (cond b (v ∷ []) ((128 + v % 128) ∷ groups k (v / 128)))
    go true = omega arith
    go false = omega arith
