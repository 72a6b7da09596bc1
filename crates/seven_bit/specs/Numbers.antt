-- Numbers below 2^32 in groups of seven bits, lowest first, with the high bit set on all but the last.
use Rattle.std.specs.Prelude.{◌≡◌, ℕ, zero, suc, ◌+◌, ◌-◌, ◌*◌, ◌/◌, ◌%◌, ◌^◌, ◌<◌, cond, List, [], ◌∷◌, ◌++◌, Ok, Err, Result, ◌==◌, nat_lt, slice_index, codes}
use Rattle.seven_bit.specs.declared.fault.NumberFault.{NumberFault}
use Rattle.seven_bit.specs.declared.fault.NumberFault.TheVariants.{Malformed, Cut}

-- the number by which each fault is told to callers
abbrev pub fault_number : NumberFault → ℕ
fault_number Malformed = 15
fault_number Cut = 16

-- what each fault says in words
abbrev pub fault_words : NumberFault → List ℕ
fault_words Malformed = codes "a number is not in its shortest form, or is 2^32 and more"
fault_words Cut = codes "the input ends in a record"

-- ---- writing

-- the shortest form of a number, of at most k + 1 groups
abbrev pub groups : ℕ → ℕ → List ℕ
groups zero v = v ∷ []
groups (suc k) v = cond (nat_lt v 128) (v ∷ []) ((128 + v % 128) ∷ groups k (v / 128))

abbrev pub encoded : ℕ → List ℕ
encoded v = groups 4 v

-- ---- reading

abbrev pub Read : Type 0
Read = Result (ℕ × List ℕ) NumberFault

-- a group with its high bit set, before the groups of a number: 0 would not be the shortest form, and from 2 ^ 25 on the whole is 2 ^ 32 and more
abbrev pub after_group : ℕ → Read → Read
after_group b (Ok p) = cond (p.0 == 0) (Err Malformed) (cond (nat_lt p.0 (2 ^ 25)) (Ok (b - 128 + 128 * p.0, p.1)) (Err Malformed))
after_group b (Err e) = Err e

-- the number at the front of some bytes, of at most k + 1 groups, with the bytes after it
abbrev pub number_of : ℕ → List ℕ → Read
number_of k [] = Err Cut
number_of k (b ∷ bs) = cond (nat_lt b 128) (Ok (b, bs)) (cond (k == 0) (Err Malformed) (after_group b (number_of (k - 1) bs)))

abbrev pub number_at : List ℕ → Read
number_at xs = number_of 4 xs

-- ---- the law

abbrev pub Bytes : List ℕ → Type 0
Bytes xs = (i : ℕ) → slice_index xs i < 256

-- Writing then reading gives the number back, and what is read is the shortest form of a number below 2 ^ 32.
pub record ShortestRead : Type 0 where
  pub back : (v : ℕ) (ys : List ℕ) → v < 2 ^ 32 → number_at (encoded v ++ ys) ≡ Ok (v, ys)
  pub only : (xs : List ℕ) (v : ℕ) (ys : List ℕ) → Bytes xs → number_at xs ≡ Ok (v, ys) → (xs ≡ encoded v ++ ys) × (v < 2 ^ 32)
