-- The scripted port in memory, as its callers see it (this project's own choice).
use Rattle.std.specs.Prelude.{◌≡◌, ℕ, ◌≤◌, Bool, true, false, nat_le, nat_lt, List, [], ◌∷◌, ◌++◌, length, Option, Some, None, Result}
use Rattle.std.specs.Prelude.{Ok, Err, if◌then◌else◌}
use Rattle.outside.specs.Causes.{next_count}
use Rattle.outside.specs.Links.{is_linked, most_event_bytes}
use Rattle.wire_base.specs.declared.memory.NoMemory.{NoMemory}
use Rattle.outside.specs.declared.event.Event.{Event}
use Rattle.outside.specs.declared.event.Event.TheVariants as event
use Rattle.outside.specs.declared.event.Happening.{Happening}
use Rattle.outside.specs.declared.event.Happening.TheVariants as happening

-- the link that the first dial gives
abbrev pub first_dialled : ℕ
first_dialled = 1000

-- a scripted port
pub record PortScript : Type 0 where
  -- the events that come next; then there is `Stop`
  pub events : List Event
  -- the numbers of the calls that fail, of those of `listen`, `next`, `dial` and `send` together, counted from 0
  pub failing : List ℕ
  pub calls : ℕ
  -- the link that the next dial gives
  pub next_link : ℕ
  pub faults : ℕ
  pub link_faults : ℕ
  -- the sends that didn't fail and that it kept
  pub sent : List (ℕ × List ℕ)
  -- what happened, as far as it was kept
  pub story : List Happening
  -- whether the port still tells: all that happened is kept
  pub tells : Bool

-- the story that a port tells
abbrev pub port_story : PortScript → Option (List Happening)
port_story port = if port.tells then Some port.story else None

-- an event that may be listed: links below 1000 are opened, so that dials give others
abbrev pub is_scripted : Event → Bool
is_scripted (event.Opened link) = nat_lt link first_dialled
is_scripted (event.Bytes link bytes) = nat_le (length bytes) most_event_bytes
is_scripted (event.Closed link) = true
is_scripted (event.Dialled link) = false
is_scripted event.DialFailed = false
is_scripted event.Stop = true

-- the event that comes next
abbrev pub next_event : List Event → Event
next_event [] = event.Stop
next_event (next ∷ later) = next

-- the events after the next
abbrev pub later_events : List Event → List Event
later_events [] = []
later_events (next ∷ later) = later

-- no link from that one on is open after the story
abbrev pub HasLinksBelow : ℕ → List Happening → Type 0
HasLinksBelow next_link story = (link : ℕ) → next_link ≤ link → is_linked story link ≡ false

-- what happened opened no link from that one on
abbrev pub is_kept_below : ℕ → Happening → Bool
is_kept_below next_link (happening.Given (event.Opened link) want) = nat_lt link next_link
is_kept_below next_link (happening.Dialled peer (Some link)) = nat_lt link next_link
is_kept_below next_link _ = true

-- A story is stored with what happened at its end, or it stays as it was.
abbrev pub Stores : List Happening → List Happening → Result Happening NoMemory → Bool → Type 0
Stores old new (Ok happened) true = new ≡ old ++ happened ∷ []
Stores old new (Ok happened) false = new ≡ old
Stores old new (Err _) stored = (stored ≡ false) × (new ≡ old)

-- What a call leaves: it is counted, and so is its fault, at the port or at a link; what happened may be kept.
abbrev pub AfterCall : PortScript → PortScript → Bool → Bool → Type 0
AfterCall old new fault link_fault =
    new ≡ record old {
      calls = next_count old.calls;
      faults = (if fault then next_count old.faults else old.faults);
      link_faults = (if link_fault then next_count old.link_faults else old.link_faults);
      story = new.story;
      tells = new.tells;
    }

-- a scripted port of which no call fails, but for a dial where no number of a link is left
pub record SurePortScript : Type 0 where
  pub events : List Event
  pub next_link : ℕ
  pub link_faults : ℕ
  pub sent : List (ℕ × List ℕ)
  pub story : List Happening
  pub tells : Bool

-- the story that it tells
abbrev pub sure_story : SurePortScript → Option (List Happening)
sure_story port = if port.tells then Some port.story else None
