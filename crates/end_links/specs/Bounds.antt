-- What bounds what an end sends at a step, and how many challenges it draws there (this project's own choice).
use Rattle.std.specs.Prelude.{ℕ, ◌+◌, ◌*◌, ◌/◌, ◌≤◌, List, length, Option, Some, None, Result, Ok, Err}
use Rattle.std.specs.List.{AllByRecursion}
use Rattle.outside.specs.declared.action.Action.{Action}
use Rattle.outside.specs.declared.action.Action.TheVariants.{Keep, Send, Dial, Close, Told, Judged}
use Rattle.outside.specs.declared.action.StepRefused.{StepRefused}
use Rattle.outside.specs.declared.event.Event.{Event}
use Rattle.outside.specs.declared.event.Event.TheVariants.{Bytes}
use Rattle.outside.specs.Machine.{Part, AnswersBy, left_by}
use Rattle.rpc_units.specs.declared.refused.UnitRefused.{UnitRefused}
use Rattle.rpc_units.specs.Stream.{cut_stream, rest_limit}
use Rattle.end_links.specs.Links.{LinkState}
use Rattle.end_links.specs.Serving.{Server, ServedPart, StreamsBy, served_cut}

-- ---- sends

-- the most bytes of one send: nine pieces of 65,536
abbrev pub send_limit : ℕ
send_limit = 9 * 65536

abbrev pub IsShortSend : Action → Type 0
IsShortSend (Keep bytes) = Unit {0}
IsShortSend (Send link bytes) = length bytes ≤ send_limit
IsShortSend (Dial peer) = Unit {0}
IsShortSend (Close link cause) = Unit {0}
IsShortSend (Told link outcome) = Unit {0}
IsShortSend (Judged judged) = Unit {0}

-- each send among these actions is a short one (`IsShortSend`)
abbrev pub AreShortSends : List Action → Type 0
AreShortSends actions = AllByRecursion IsShortSend actions

-- ---- challenges

-- what is still allowed by what is said on a link; nothing, where the link is closed
abbrev pub extra_on : {T : Type 0} → (T → ℕ) → Option T → ℕ
extra_on extra None = 0
extra_on extra (Some talk) = extra talk

-- what is still allowed after a part of a step; nothing, where the challenges weren't enough
abbrev pub extra_after : {W T : Type 0} → (T → ℕ) → ServedPart W T → ℕ
extra_after extra (Err why) = 0
extra_after extra (Ok part) = extra_on extra part.value.1

-- An end that draws at most one challenge for a unit, and `extra` more on a link, by what is said on it: so many
-- before, and what is left of them after the unit. None is drawn where the rest of a stream is refused. Where the
-- challenges weren't enough, there were no more than that.
pub record ServerDrawsFew {W T : Type 0} (server : Server W T) (extra : T → ℕ) : Type 0 where
  pub unit : (bytes : List ℕ) (work : W) (talk : T) (left : List (List ℕ)) →
      length left + extra_after extra (server.unit bytes work talk left) ≤ length (left_by (server.unit bytes work talk left)) + 1 + extra talk
  pub refusal : (why : UnitRefused) (work : W) (talk : T) (left : List (List ℕ)) →
      length left ≤ length (left_by (server.refusal why work talk left))

-- the most units that a piece of `count` bytes can end: the link's rest has at most 5,839 bytes, and a unit at least 16
abbrev pub units_in_piece : (count : ℕ) → ℕ
units_in_piece count = (rest_limit + count) / 16

-- the most units that an event can end
abbrev pub units_at : Event → ℕ
units_at (Bytes link piece) = units_in_piece (length piece)
units_at _ = 0

-- ---- laws

-- What bounds an end at a step, whatever end it is.
pub record StepsBounded (W T : Type 0) : Type 0 where
  -- serving a stream draws at most one challenge for each 16 bytes of it, and those that are allowed besides
  pub few : (server : Server W T) (extra : T → ℕ) → ServerDrawsFew server extra → (stream : List ℕ) (work : W) (talk : T) (left : List (List ℕ)) →
      length left ≤ length (left_by (served_cut server (cut_stream stream) work talk left)) + length stream / 16 + extra talk
  -- a call that makes a part of a step leaves no fewer than that part
  pub left : (result : Result W StepRefused) (part : Result (Part W) StepRefused) (left : List (List ℕ)) →
      AnswersBy result part left → length (left_by part) ≤ length left
  -- a call that serves a stream leaves no fewer than the part that it makes
  pub streams : (result : Result (W × Option (LinkState T)) StepRefused) (part : ServedPart W T) (rest : List ℕ) (left : List (List ℕ)) →
      StreamsBy result part rest left → length (left_by part) ≤ length left
