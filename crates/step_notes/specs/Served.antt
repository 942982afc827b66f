-- What a unit that an end serves (`ServedUnit` of end_links) leaves, and whose units a step has.
use Rattle.std.specs.Prelude.{List, [], Option, Some, None, Result, Ok, Err}
use Rattle.outside.specs.declared.action.Action.{Action}
use Rattle.outside.specs.declared.action.StepRefused.{StepRefused}
use Rattle.end_links.specs.Serving.{ServedPart}

-- the end at work after a unit, and what is said then: none where the challenges weren't enough, or the link was closed
abbrev pub work_after : {W T : Type 0} → ServedPart W T → Option W
work_after (Err why) = None
work_after (Ok part) = Some part.value.0

abbrev pub talk_after : {W T : Type 0} → ServedPart W T → Option T
talk_after (Err why) = None
talk_after (Ok part) = part.value.1

-- the units of a step that is taken, by its answer: a step that draws more challenges than are left comes to nothing
abbrev pub units_if_taken : {U : Type 0} → Result (List Action) StepRefused → List U → List U
units_if_taken (Ok actions) units = units
units_if_taken (Err why) units = []
