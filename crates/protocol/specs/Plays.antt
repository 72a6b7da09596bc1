-- Playing a list of calls on a bank.
use Rattle.std.specs.Prelude.{◌≡◌, List, [], ◌∷◌, map, Some}
use Rattle.protocol.specs.declared.call.Call.{Call}
use Rattle.protocol.specs.declared.call.Play.{Play}
use Rattle.protocol.specs.Operands.{Make}
use Rattle.protocol.specs.History.{Event}
use Rattle.protocol.specs.Bank.{Bank, answer, after}
use Rattle.protocol.specs.Promise.{bank_after, history}

-- how a list of calls leaves a bank, the first call first
abbrev pub played : Make → Bank → List Play → Bank
played m b [] = b
played m b (p ∷ ps) = played m (after m b p.call) ps

-- the list with the answers
abbrev pub replied : Make → Bank → List Play → List Play
replied m b [] = []
replied m b (p ∷ ps) = record { call = p.call; reply = Some (answer m b p.call) } ∷ replied m (after m b p.call) ps

-- ---- a list that is played, in the history of its bank

-- a list of the oldest first, put upon one of the newest first
abbrev pub onto : {A : Type 0} → List A → List A → List A
onto [] past = past
onto (x ∷ xs) past = onto xs (x ∷ past)

abbrev pub calls_of : List Play → List Call
calls_of ps = map (λ (p : Play). p.call) ps

abbrev pub as_play : Event → Play
as_play e = record { call = e.call; reply = Some e.reply }

-- If the calls of the past are all that ever happened to the bank before, then they and the list are all that did after, and the list's
-- answers are those of that history.
pub record InHistory (m : Make) (before : Bank) (list : List Play) (played_list : List Play) (now : Bank) (past : List Call) : Type 0 where
  pub bank_is : now ≡ bank_after m (onto (calls_of list) past)
  pub answers_are : map as_play (history m (onto (calls_of list) past)) ≡ onto played_list (map as_play (history m past))

abbrev pub StandsInHistory : Make → Bank → List Play → List Play → Bank → Type 0
StandsInHistory m before list played_list now = (past : List Call) → before ≡ bank_after m past → InHistory m before list played_list now past
