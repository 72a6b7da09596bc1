-- What a record tells that nothing refuses.
use Rattle.std.specs.Prelude.{ℕ, ◌^◌, ◌<◌, List, [], ◌∷◌, Ok, Err, Result}
use Rattle.single.specs.MarkSets as mark_sets
use Rattle.protocol.specs.declared.call.Reply.{Reply}
use Rattle.lanes.specs.Replies.{FewShown}
use Rattle.records.specs.declared.fault.Fault.{Fault}
use Rattle.stream.specs.declared.told.Told.{Told}
use Rattle.stream.specs.declared.told.Told.TheVariants.{Noted, Marked, Called}
use Rattle.stream.specs.Entries.{shown}

-- its numbers
abbrev pub telling : Told → List ℕ
telling (Noted n) = 0 ∷ n ∷ []
telling (Marked k) = 0 ∷ mark_sets.number k ∷ []
telling (Called r) = shown r

-- it is small enough for its numbers to fit into 8 bytes
abbrev pub IsShortReply : Result Reply Fault → Type 0
IsShortReply (Ok r) = FewShown (Ok r)
IsShortReply (Err f) = Unit {0}

abbrev pub IsShort : Result Told Fault → Type 0
IsShort (Ok (Noted n)) = n < 2 ^ 21
IsShort (Ok (Marked k)) = Unit {0}
IsShort (Ok (Called r)) = FewShown (Ok r)
IsShort (Err f) = Unit {0}
