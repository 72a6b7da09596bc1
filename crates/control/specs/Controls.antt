-- What happens to a control.
use Rattle.single.specs.declared.mode.Mode.{Mode}
use Rattle.single.specs.declared.marks.Marks.{Marks}
use Rattle.single.specs.MarkSets.{union}
use Rattle.control.specs.declared.control.Control.{Control}

-- the control in a mode, with the marks it had
abbrev pub in_mode : Control → Mode → Control
in_mode c mode = record { mode = mode; marks = c.marks }

-- the control with marks added, in the mode it was in
abbrev pub raised : Control → Marks → Control
raised c marks = record { mode = c.mode; marks = union c.marks marks }
