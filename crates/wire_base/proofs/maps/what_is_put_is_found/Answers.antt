use Rattle.wire_base.proofs.MapLaws.{lookup-put_same, put_others, IsMap-put, lookup-take_out_same, taken_others, IsMap-take_out}
use Rattle.wire_base.proofs.maps.what_is_put_is_found.Goals as goal

pub returns-clause-put_found : goal.returns-clause-put_found
returns-clause-put_found g c same key value entries sameness = lookup-put_same same key value entries (sameness.reflexive key)

pub returns-clause-put_others : goal.returns-clause-put_others
returns-clause-put_others g c = put_others

pub returns-clause-put_distinct : goal.returns-clause-put_distinct
returns-clause-put_distinct g c = IsMap-put

pub returns-clause-taken_gone : goal.returns-clause-taken_gone
returns-clause-taken_gone g c = lookup-take_out_same

pub returns-clause-taken_others : goal.returns-clause-taken_others
returns-clause-taken_others g c = taken_others

pub returns-clause-taken_distinct : goal.returns-clause-taken_distinct
returns-clause-taken_distinct g c = IsMap-take_out
