-- That what a controller sends is whole: each send of a step is the bytes of one whole unit, in one fragment or more
-- (C706 12.6.2), and has room in one piece of a link (this project's own choice). It holds where what the controller
-- has is in its ranges, and a step leaves it so. What comes has none: a number that was read is written modulo its
-- width.
use Rattle.std.specs.Prelude.{ℕ, ◌≡◌, ◌≤◌, ◌<◌, ◌^◌, List, Option, Some, None, Ok, Err}
use Rattle.std.specs.List.{AllByRecursion}
use Rattle.wire_base.specs.Names.{IsName}
use Rattle.outside.specs.declared.event.Event.{Event}
use Rattle.ndr_codec.specs.Parts.{IfThere}
use Rattle.logon_stubs.specs.Ranges.{IsBlock}
use Rattle.controller_calls.specs.declared.calls.ControllerCall.{ControllerCall}
use Rattle.account_table.specs.AccountTable.{AccountTable}
use Rattle.account_table.specs.Ranges.{InRangeAccount, InRangeSid}
use Rattle.end_links.specs.Agreed.{Agreed}
use Rattle.end_links.specs.Links.{LinkState}
use Rattle.end_links.specs.Serving.{ServedPart}
use Rattle.end_links.specs.Whole.{IsWholeIfSent}
use Rattle.end_loop.specs.Runs.{actions_of}
use Rattle.controller_calls.specs.Desk.{IsLine, Desk}
use Rattle.domain_controller.specs.Hearing.{hear}
use Rattle.domain_controller.specs.Machine.{controller_server}
use Rattle.domain_controller.specs.State.{State}
use Rattle.domain_controller.specs.Step.{LinkMap, first_state, step_of}
use Rattle.domain_controller.specs.declared.hearing.Heard.TheVariants as heard
use Rattle.controller_calls.specs.declared.line.Line.{Line}
use Rattle.domain_controller.specs.declared.state.Running.{Running}
use Rattle.domain_controller.specs.declared.state.Talk.{Talk}

-- ---- the ranges of what a controller has

-- the domain's name and identifier, and the accounts
pub record InRangeTable (table : AccountTable) : Type 0 where
  pub domain : IsName table.domain
  pub sid : InRangeSid table.sid
  pub accounts : AllByRecursion InRangeAccount table.accounts

-- where a bind was taken, fragments of at least 1,432 bytes were agreed on, and of at most 5,840
abbrev pub HasLimit : Option Agreed → Type 0
HasLimit None = Unit {0}
HasLimit (Some agreed) = (1432 ≤ agreed.limit) × (agreed.limit ≤ 5840)

abbrev pub InRangeTalk : Talk → Type 0
InRangeTalk talk = HasLimit talk.binding

abbrev pub InRangeLinks : LinkMap → Type 0
InRangeLinks links = AllByRecursion (λ (entry : ℕ × LinkState Talk). InRangeTalk entry.1.talk) links

abbrev pub InRangeRunning : Option Running → Type 0
InRangeRunning None = Unit {0}
InRangeRunning (Some running) = InRangeLinks running.links

pub record InRangeState (s : State) : Type 0 where
  pub name : IsName s.name
  pub table : InRangeTable s.table
  pub running : InRangeRunning s.running

-- challenges have 8 bytes
abbrev pub AreChallenges : List (List ℕ) → Type 0
AreChallenges left = AllByRecursion (λ (challenge : List ℕ). IsBlock 8 challenge) left

-- ---- at work

-- each send so far is whole
pub record InRangeDesk (d : Desk) : Type 0 where
  pub sends : AllByRecursion IsWholeIfSent d.work.actions
  pub table : InRangeTable d.table

-- what serving a unit comes to
abbrev pub InRangePart : ServedPart Desk Talk → Type 0
InRangePart (Err why) = Unit {0}
InRangePart (Ok part) = InRangeDesk part.value.0 × IfThere InRangeTalk part.value.1 × AreChallenges part.left

-- Whatever comes, from whomever, at any moment of 64 bits and with challenges of 8 bytes.
pub record SendsAreWhole : Type 0 where
  pub sends : (s : State) (what : Event) (now : ℕ) (left : List (List ℕ)) → InRangeState s → now < 2 ^ 64 → AreChallenges left →
      AllByRecursion IsWholeIfSent (actions_of (step_of s what now left))
  -- a step leaves the ranges, and they hold at first
  pub keeps : (s : State) (what : Event) (now : ℕ) (left : List (List ℕ)) → InRangeState s → now < 2 ^ 64 → AreChallenges left →
      InRangeState (step_of s what now left).state
  pub first : (table : AccountTable) (name : List ℕ) → InRangeTable table → IsName name → InRangeState (first_state table name)
  -- each unit of a piece leaves them
  pub unit : (name : List ℕ) (now link : ℕ) (bytes : List ℕ) (d : Desk) (talk : Talk) (left : List (List ℕ)) →
      IsName name → now < 2 ^ 64 → InRangeDesk d → InRangeTalk talk → AreChallenges left →
      InRangePart ((controller_server name now link).unit bytes d talk left)
  -- a call is answered in fragments of that size
  pub line : (link : ℕ) (bytes : List ℕ) (talk later : Talk) (line : Line) (c : ControllerCall) → InRangeTalk talk →
      hear link bytes talk ≡ heard.Asked line c later → IsLine line
