-- What a port's story says of each kind of its calls (this project's own choice). A story is what happened at the port,
-- in order; a link is a number below 2^32, an address or a peer a list of bytes.
use Rattle.std.specs.Prelude.{◌≡◌, ℕ, Bool, true, false, ◌||◌, ◌==◌, List, [], ◌∷◌, ◌++◌, Option, Some, None, if◌then◌else◌}
use Rattle.std.specs.List.{flat_map, list_any}
use Rattle.std.specs.Option.{is_none}
use Rattle.outside.specs.Causes.{RisesWhere}
use Rattle.outside.specs.declared.event.Event.{Event}
use Rattle.outside.specs.declared.event.Happening.{Happening}
use Rattle.outside.specs.declared.event.Happening.TheVariants as happening

-- ---- the address listened at

-- the address after one more happening
abbrev pub address_after : Happening → Option (List ℕ) → Option (List ℕ)
address_after (happening.Listened address) before = Some address
address_after _ before = before

-- the address after these happenings, where it was that before
abbrev pub address_from : Option (List ℕ) → List Happening → Option (List ℕ)
address_from before [] = before
address_from before (happened ∷ later) = address_from (address_after happened before) later

-- the address listened at last, or none
abbrev pub address_in : List Happening → Option (List ℕ)
address_in story = address_from None story

-- ---- events given, dials and closes

-- the event that a happening gives, with the link that was waited for
abbrev pub event_of : Happening → List (Event × Option ℕ)
event_of (happening.Given what want) = (what, want) ∷ []
event_of _ = []

-- the events given, each with the link that its caller waited for, or none
abbrev pub events_in : List Happening → List (Event × Option ℕ)
events_in story = flat_map event_of story

-- the dial that it is
abbrev pub dial_of : Happening → List (List ℕ × Option ℕ)
dial_of (happening.Dialled peer link) = (peer, link) ∷ []
dial_of _ = []

-- the peers dialled, each with its link, or none where the dial failed
abbrev pub dials_in : List Happening → List (List ℕ × Option ℕ)
dials_in story = flat_map dial_of story

-- the link that it closes
abbrev pub close_of : Happening → List ℕ
close_of (happening.Shut link) = link ∷ []
close_of _ = []

-- the links closed by the caller
abbrev pub closes_in : List Happening → List ℕ
closes_in story = flat_map close_of story

-- ---- sends

-- the send that it is
abbrev pub send_of : Happening → List (ℕ × (List ℕ × Bool))
send_of (happening.Sent link bytes failed) = (link, (bytes, failed)) ∷ []
send_of _ = []

-- the sends: the link, the bytes and whether it failed
abbrev pub sends_in : List Happening → List (ℕ × (List ℕ × Bool))
sends_in story = flat_map send_of story

-- the send on that link that it is
abbrev pub send_on : ℕ → Happening → List (List ℕ × Bool)
send_on link (happening.Sent other bytes failed) = if other == link then (bytes, failed) ∷ [] else []
send_on link _ = []

-- the sends on one link: the bytes and whether it failed
abbrev pub sends_on : ℕ → List Happening → List (List ℕ × Bool)
sends_on link story = flat_map (send_on link) story

-- the byte strings of the sends before the first that failed
abbrev pub before_failure : List (List ℕ × Bool) → List (List ℕ)
before_failure [] = []
before_failure (send ∷ later) = if send.1 then [] else send.0 ∷ before_failure later

-- the byte strings sent on a link, up to the first send on it that failed
abbrev pub strings_on : ℕ → List Happening → List (List ℕ)
strings_on link story = before_failure (sends_on link story)

-- the bytes of strings, one after the other
abbrev pub bytes_of : List (List ℕ) → List ℕ
bytes_of strings = flat_map (λ (bytes : List ℕ). bytes) strings

-- the bytes sent on a link, up to the first send on it that failed
abbrev pub bytes_on : ℕ → List Happening → List ℕ
bytes_on link story = bytes_of (strings_on link story)

-- ---- failures

-- whether a send failed
abbrev pub has_failed : List ℕ × Bool → Bool
has_failed send = send.1

-- whether a send on the link failed
abbrev pub fails_on : ℕ → List Happening → Bool
fails_on link story = list_any has_failed (sends_on link story)

-- whether a happening is a dial or a send that failed
abbrev pub is_link_failure : Happening → Bool
is_link_failure (happening.Sent link bytes failed) = failed
is_link_failure (happening.Dialled peer None) = true
is_link_failure _ = false

-- whether a dial or a send failed
abbrev pub fails_at_links : List Happening → Bool
fails_at_links story = list_any is_link_failure story

-- ---- what happened later stands behind what happened before

-- on a link on which no send failed before, the bytes sent before stand in front of those sent later; else they are all
abbrev pub bytes_after : Bool → List ℕ → List ℕ → List ℕ
bytes_after true before later = before
bytes_after false before later = before ++ later

-- what a story says, where more happened after it
pub record StoriesAddUp : Type 0 where
  pub address : (before later : List Happening) → address_in (before ++ later) ≡ address_from (address_in before) later
  pub events : (before later : List Happening) → events_in (before ++ later) ≡ events_in before ++ events_in later
  pub dials : (before later : List Happening) → dials_in (before ++ later) ≡ dials_in before ++ dials_in later
  pub closes : (before later : List Happening) → closes_in (before ++ later) ≡ closes_in before ++ closes_in later
  pub sends : (before later : List Happening) → sends_in (before ++ later) ≡ sends_in before ++ sends_in later
  pub bytes : (link : ℕ) (before later : List Happening) →
      bytes_on link (before ++ later) ≡ bytes_after (fails_on link before) (bytes_on link before) (bytes_on link later)
  pub failures : (before later : List Happening) → fails_at_links (before ++ later) ≡ (fails_at_links before || fails_at_links later)

-- A send and a dial after which the count of link faults rose where they failed are so in a story's terms.
pub record FaultsFollow : Type 0 where
  pub sent : (link : ℕ) (bytes : List ℕ) (failed : Bool) (before now : ℕ) →
      RisesWhere failed before now → RisesWhere (fails_at_links (happening.Sent link bytes failed ∷ [])) before now
  pub dialled : (peer : List ℕ) (link : Option ℕ) (before now : ℕ) →
      RisesWhere (is_none link) before now → RisesWhere (fails_at_links (happening.Dialled peer link ∷ [])) before now
