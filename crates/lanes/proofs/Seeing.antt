-- The code's lanes at a time, as the model has them.
use Rattle.std.proofs.Common.{◌≡◌, ℕ, ◌≤◌, Bool, true, false, cond, leb, ltb, List, ◌++◌, Some, None, Option, map, length, get_or, take, drop, refl, ap, ◌∙◌, arith}
use Rattle.std.proofs.lemmas.List.{take_all, drop_all, append-nil}
use Rattle.std.specs.Bool.{then_some}
use Rattle.std.proofs.Math.ListN.{get_or-map}
use Rattle.std.proofs.lemmas.Bool.Decides.{nat_tests}
use Rattle.lanes.specs.declared.lanes.Holder.{Holder}
use Rattle.lanes.specs.declared.lanes.Lane.{Lane}
use Rattle.lane_job.specs.Seen.{seen_option}
use Rattle.protocol.specs.Bank.{expires}
use Rattle.protocol.specs.Bank.Lane.{free, held}
use Rattle.lanes.specs.Seen.{lane_of, lane_at, empty, at_time}

expires_one : (t : ℕ) (o : Option Holder) → lane_of (at_time t (record { holder = o })).holder ≡ expires t (lane_of o)
expires_one t None = refl
expires_one t (Some h) = go (leb h.deadline t) refl
  where
    go : (x : Bool) → leb h.deadline t ≡ x → lane_of (then_some (ltb t h.deadline) h) ≡ cond (leb h.deadline t) free (held h.serial h.deadline (seen_option h.job))
    go true e = let past : ltb t h.deadline ≡ false = grind (arith, nat_tests) in rw (e, past)
    go false e = let early : ltb t h.deadline ≡ true = grind (arith, nat_tests) in rw (e, early)

expires_all : (t : ℕ) (lanes : List Lane) (i : ℕ) → lane_at (map (at_time t) lanes) i ≡ expires t (lane_at lanes i)
expires_all t lanes i = go (ltb i 8) refl
  where
    go : (x : Bool) → ltb i 8 ≡ x → lane_at (map (at_time t) lanes) i ≡ expires t (lane_at lanes i)
    go true e = rw e (ap (λ (l : Lane). lane_of l.holder) (get_or-map (at_time t) lanes i empty) ∙ expires_one t (get_or lanes i empty).holder)
    go false e = rw e

-- all lanes of a loop that brings one after the other to a time
pub expired : (t : ℕ) (before now : List Lane) (i : ℕ) → length before ≤ i → now ≡ map (at_time t) (take i before) ++ drop i before →
    (k : ℕ) → lane_at now k ≡ expires t (lane_at before k)
expired t before now i h e k =
    let none = drop_all i before h in
    let all = take_all i before h in
    let whole : map (at_time t) (take i before) ++ drop i before ≡ map (at_time t) before = rw (none, all) (append-nil (map (at_time t) before)) in
    ap (λ (ls : List Lane). lane_at ls k) (e ∙ whole) ∙ expires_all t before k
