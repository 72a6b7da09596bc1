-- A job's registers at its start, after a digit and at its end, over the models of a selector and a number form.
use Rattle.std.specs.Prelude.{ℕ, zero, suc, ◌+◌, ◌-◌, ◌*◌, ◌/◌, ◌^◌, Bool, true, false, cond, ℤ, pos, ◌+ℤ◌, ◌-ℤ◌, ◌*ℤ◌, neg_ℤ, Some, None, Option, int_le, int_lt, nat_lt, unsigned_abs}
use Rattle.number_form.specs.declared.words.Words.{Words}
use Rattle.number_form.specs.declared.sign.Sign.TheVariants.{Negative, NotNegative}
use Rattle.number_form.specs.Forms.{FormModel}
use Rattle.selection.specs.Operands.{quarter}
use Rattle.selection.specs.Starts.{halves}
use Rattle.selection.specs.Selectors.{SelectorModel, radix}
use Rattle.selection.specs.declared.start.Start.{Start}
use Rattle.recurrence.specs.declared.registers.Registers.{Registers}
use Rattle.recurrence.specs.declared.registers.Partial.{Partial}
use Rattle.recurrence.specs.declared.registers.Choice.{Choice}
use Rattle.recurrence.specs.declared.registers.Outcome.{Outcome}
use Rattle.recurrence.specs.declared.registers.Terms.{Terms}
use Rattle.recurrence.specs.declared.job.Job.{Job}
use Rattle.recurrence.specs.declared.job.Job.TheVariants.{Settled, Running}

-- ---- the start

-- W[0] = 1 - X * S[0] ^ 2 times 2 ^ (K + Q), with S[0] in halves
abbrev pub first_residual : ℕ → ℕ → ℕ → Start → ℤ
first_residual K Q x start = pos (2 ^ (K + Q)) -ℤ pos (x * (halves start * halves start) * 2 ^ (Q - 2))

-- P[0] = X * S[0] times 2 ^ (K + Q)
abbrev pub first_product : ℕ → ℕ → Start → ℤ
first_product Q x start = pos (x * halves start * 2 ^ (Q - 1))

-- S[0], and S[0] - 1
abbrev pub first_partial : ℕ → Start → Partial
first_partial Q start = record { s = halves start * 2 ^ (Q - 1); below = halves start * 2 ^ (Q - 1) - 2 ^ Q }

abbrev pub first_registers : SelectorModel → FormModel → ℕ → ℕ → ℕ → Registers
first_registers S F K Q x =
    record {
      k = K;
      q = Q;
      factor = x;
      place = Q;
      residual = F.set (first_residual K Q x (S.start K x));
      product = F.set (first_product Q x (S.start K x));
      partial = first_partial Q (S.start K x);
    }

-- ---- one digit

-- The digit is the selector's, for the estimates of the shifted residual and of the product.
abbrev pub chosen_from : SelectorModel → FormModel → ℕ → Words → Words → Choice
chosen_from S F scale shifted product =
    record {
      residual = F.estimate (scale - S.residual_places) shifted;
      product = F.estimate (scale - S.product_places) product;
      digit = S.digit (F.estimate (scale - S.residual_places) shifted) (F.estimate (scale - S.product_places) product);
    }

abbrev pub chosen : SelectorModel → FormModel → Registers → Choice
chosen S F c = chosen_from S F (c.k + c.q) (F.shift S.bits c.residual) c.product

-- what a digit q adds, where its operand term is x times 2 ^ (K + Q) at the digit's place
abbrev pub terms : ℤ → ℤ → Terms
terms q term = record { multiple = neg_ℤ (pos 2 *ℤ q); square = neg_ℤ (q *ℤ (q *ℤ term)); once = q *ℤ term }

-- What a digit's terms make of the shifted residual: the multiple of the product is added, and then the operand term.
abbrev pub reduced_by : FormModel → Terms → Words → Words → Words
reduced_by F y product shifted = F.add y.square (F.add_multiple y.multiple product shifted)

-- The residual, shifted: -2q times the product is added, and then -q ^ 2 times the operand term.
abbrev pub reduced : FormModel → ℤ → ℤ → Words → Words → Words
reduced F q term product shifted = reduced_by F (terms q term) product shifted

-- On-the-fly conversion, with the digit q of radix r at the place p: the next S is S plus q there where q is not negative, and else S less
-- one unit of the last place plus r + q there.
abbrev pub next_s : ℤ → ℤ → ℕ → Partial → ℕ
next_s r q p c = cond (int_le (pos 0) q) (c.s + unsigned_abs q * 2 ^ p) (c.below + unsigned_abs (r +ℤ q) * 2 ^ p)

-- The next S less one unit is S plus q - 1 there where q is positive, and else S less one unit of the last place plus r - 1 + q there.
abbrev pub next_below : ℤ → ℤ → ℕ → Partial → ℕ
next_below r q p c = cond (int_lt (pos 0) q) (c.s + unsigned_abs (q -ℤ pos 1) * 2 ^ p) (c.below + unsigned_abs (r -ℤ pos 1 +ℤ q) * 2 ^ p)

abbrev pub appended : ℕ → ℤ → ℕ → Partial → Partial
appended r q p c = record { s = next_s (pos r) q p c; below = next_below (pos r) q p c }

abbrev pub turned_by : SelectorModel → FormModel → ℤ → Registers → Registers
turned_by S F q c =
    record {
      k = c.k;
      q = c.q;
      factor = c.factor;
      place = c.place - S.bits;
      residual = reduced F q (pos (c.factor * 2 ^ (c.place - S.bits))) c.product (F.shift S.bits c.residual);
      product = F.add (terms q (pos (c.factor * 2 ^ (c.place - S.bits)))).once c.product;
      partial = appended (radix S) q (c.place - S.bits) c.partial;
    }

-- no digit is left to make
abbrev pub complete : SelectorModel → Registers → Bool
complete S c = nat_lt c.place S.bits

-- one turn makes one digit, where one is left
abbrev pub turned : SelectorModel → FormModel → Registers → Registers
turned S F c = cond (complete S c) c (turned_by S F (chosen S F c).digit c)

abbrev pub turns : SelectorModel → FormModel → ℕ → Registers → Registers
turns S F zero c = c
turns S F (suc j) c = turned S F (turns S F j c)

-- ---- the end

-- f is s, or s - 1 where the residual is negative
abbrev pub result_of : FormModel → Registers → Outcome
result_of F c = record { f = elim (F.sign c.residual) [ Negative ↦ c.partial.s - 1 | NotNegative ↦ c.partial.s ]; exact = false }

-- ---- jobs

-- what a job is, but for the invariant that its registers keep
pub data State : Type 0 where
  settled : Outcome → State
  running : Registers → State

abbrev pub seen : Job → State
seen (Settled o) = settled o
seen (Running r) = running r.registers

-- the quarter's reciprocal root is 2
abbrev pub quarter_outcome : ℕ → Outcome
quarter_outcome Q = record { f = 2 ^ (Q + 1); exact = true }

-- A job at its start: X = 1/4 is settled with no digits.
abbrev pub begun : SelectorModel → FormModel → ℕ → ℕ → ℕ → State
begun S F K Q x = cond (quarter K x) (settled (quarter_outcome Q)) (running (first_registers S F K Q x))

-- A job after a turn, and the choice that the turn tells.
abbrev pub job_turned : SelectorModel → FormModel → State → State
job_turned S F (settled o) = settled o
job_turned S F (running c) = running (turned S F c)

abbrev pub turn_told : SelectorModel → FormModel → State → Option Choice
turn_told S F (settled o) = None
turn_told S F (running c) = cond (complete S c) None (Some (chosen S F c))

-- the digits made and the digits left; a settled job has neither
abbrev pub made : SelectorModel → State → ℕ
made S (settled o) = 0
made S (running c) = (c.q - c.place) / S.bits

abbrev pub left : SelectorModel → State → ℕ
left S (settled o) = 0
left S (running c) = c.place / S.bits

-- the registers; a settled job has none
abbrev pub registers : State → Option Registers
registers (settled o) = None
registers (running c) = Some c

-- the partial result; a settled job's is its result
abbrev pub partial_result : State → ℕ
partial_result (settled o) = o.f
partial_result (running c) = c.partial.s

-- what a job comes to, once no digit is left
abbrev pub outcome : SelectorModel → FormModel → State → Option Outcome
outcome S F (settled o) = Some o
outcome S F (running c) = cond (complete S c) (Some (result_of F c)) None

-- What an operand comes to by all its digits.
abbrev pub worked : SelectorModel → FormModel → ℕ → ℕ → ℕ → Outcome
worked S F K Q x = cond (quarter K x) (quarter_outcome Q) (result_of F (turns S F (Q / S.bits) (first_registers S F K Q x)))
