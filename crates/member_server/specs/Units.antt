-- The units of an accepted link, by how far it is (this project's own choice).
use Rattle.std.specs.Prelude.{ℕ, Bool, true, false, List, [], ◌∷◌, Option, Some, None, Result, Ok, Err}
use Rattle.outside.specs.declared.action.CloseCause.TheVariants as close
use Rattle.outside.specs.declared.action.StepRefused.{StepRefused}
use Rattle.outside.specs.Machine.{Part}
use Rattle.rpc_units.specs.declared.refused.UnitRefused.{UnitRefused}
use Rattle.rpc_units.specs.declared.unit.Body.{Body}
use Rattle.rpc_units.specs.declared.unit.Body.TheVariants.{Auth3}
use Rattle.rpc_units.specs.declared.unit.Trailer.{Trailer}
use Rattle.rpc_units.specs.declared.unit.Unit.{Unit as RpcUnit}
use Rattle.rpc_units.specs.Reading.{unit_of}
use Rattle.end_links.specs.Serving.{Server}
use Rattle.member_server.specs.declared.state.AtLink.{AtLink}
use Rattle.member_server.specs.declared.state.Bound.{Bound}
use Rattle.member_server.specs.declared.state.Phase.{Phase}
use Rattle.member_server.specs.declared.state.Phase.TheVariants as phase
use Rattle.member_server.specs.declared.state.Talk.{Talk}
use Rattle.member_server.specs.Binds.{fresh_unit}
use Rattle.unit_security.specs.Levels.{is_plain}
use Rattle.member_server.specs.Messages.{take_auth3}
use Rattle.member_server.specs.Requests.{unit_asked, unit_in, unit_out}
use Rattle.member_server.specs.Work.{Served, ServedPart, stay, shut, drawless}

-- a unit where a CHALLENGE was sent
abbrev pub body_challenged : Body → Option Trailer → Bound → List ℕ → ℕ → Option RpcUnit → AtLink → Served
body_challenged Auth3 trailer bound challenge flags joiner at = take_auth3 trailer bound challenge flags joiner at
body_challenged _ trailer bound challenge flags joiner at = shut close.OutOfPlace at

abbrev pub unit_challenged : Result RpcUnit UnitRefused → Bound → List ℕ → ℕ → Option RpcUnit → AtLink → Served
unit_challenged (Err why) bound challenge flags joiner at = shut close.BadUnit at
unit_challenged (Ok unit) bound challenge flags joiner at =
    body_challenged unit.body unit.trailer bound challenge flags joiner at

-- a unit on a link on which something is bound; it draws no challenge
abbrev pub bound_unit : Phase → List ℕ → Option RpcUnit → AtLink → Served
bound_unit phase.Fresh bytes joiner at = shut close.OutOfPlace at
bound_unit (phase.Challenged bound challenge flags) bytes joiner at =
    unit_challenged (unit_of bytes) bound challenge flags joiner at
bound_unit (phase.Asked bound place held) bytes joiner at = unit_asked (unit_of bytes) bytes bound place held joiner at
bound_unit (phase.In on) bytes joiner at = unit_in (is_plain on.bound.level) bytes on joiner at
bound_unit (phase.Out bound status) bytes joiner at = unit_out (unit_of bytes) bound status joiner at

-- a unit on a link on which nothing is bound
abbrev pub first_unit : Result RpcUnit UnitRefused → Option RpcUnit → AtLink → List (List ℕ) → ServedPart
first_unit (Err why) joiner at left = drawless (shut close.BadUnit at) left
first_unit (Ok unit) joiner at left = fresh_unit unit.body unit.trailer unit.call joiner at left

-- whether nothing is bound yet
abbrev pub is_fresh : Phase → Bool
is_fresh phase.Fresh = true
is_fresh (phase.Challenged bound challenge flags) = false
is_fresh (phase.Asked bound place held) = false
is_fresh (phase.In on) = false
is_fresh (phase.Out bound status) = false

-- a unit came on an accepted link
abbrev pub unit_by : (is_fresh : Bool) (phase : Phase) (bytes : List ℕ) (joiner : Option RpcUnit) (at : AtLink) (left : List (List ℕ)) → ServedPart
unit_by true how bytes joiner at left = first_unit (unit_of bytes) joiner at left
unit_by false how bytes joiner at left = drawless (bound_unit how bytes joiner at) left

abbrev pub unit_on : Phase → List ℕ → Option RpcUnit → AtLink → List (List ℕ) → ServedPart
unit_on how bytes joiner at left = unit_by (is_fresh how) how bytes joiner at left

-- ---- the units of a link, one after the other, and a rest that may be refused

abbrev pub serve_unit : List ℕ → AtLink → Talk → List (List ℕ) → ServedPart
serve_unit bytes at talk left = unit_on talk.phase bytes talk.joiner at left

abbrev pub refuse_rest : UnitRefused → AtLink → Talk → List (List ℕ) → Result (Part AtLink) StepRefused
refuse_rest why at talk left = Ok (record { value = (shut close.BadUnit at).0; left = left })

abbrev pub link_server : Server AtLink Talk
link_server = record { unit = serve_unit; refusal = refuse_rest }

-- ---- units that were held, one after the other

abbrev pub then_said : AtLink → Option Talk → (AtLink → Talk → Served) → Served
then_said at None later = (at, None)
then_said at (Some talk) later = later at talk

abbrev pub then_held : Served → (AtLink → Talk → Served) → Served
then_held served later = then_said served.0 served.1 later

abbrev pub serve_held : List (List ℕ) → AtLink → Talk → Served
serve_held [] at talk = stay at talk
serve_held (bytes ∷ held) at talk =
    then_held (bound_unit talk.phase bytes talk.joiner at) (λ next said. serve_held held next said)
