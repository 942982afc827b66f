-- Events and links of a port (this project's own choice).
use Rattle.std.specs.Prelude.{ℕ, Bool, true, false, not, ◌&&◌, ◌||◌, ◌==◌, nat_le, List, [], ◌∷◌, length, Option, Some, None, Result, Ok, Err, IsTrue}
use Rattle.outside.specs.declared.event.Event.{Event}
use Rattle.outside.specs.declared.event.Event.TheVariants as event
use Rattle.outside.specs.declared.event.Happening.{Happening}
use Rattle.outside.specs.declared.event.Happening.TheVariants as happening
use Rattle.outside.specs.declared.port.PortRefused.{PortRefused}

-- the most bytes of a `Bytes` event
abbrev pub most_event_bytes : ℕ
most_event_bytes = 65536

-- an event that a port may give: the others are the answers to a dial
abbrev pub is_given : Event → Bool
is_given (event.Opened link) = true
is_given (event.Bytes link bytes) = nat_le (length bytes) most_event_bytes
is_given (event.Closed link) = true
is_given (event.Dialled link) = false
is_given event.DialFailed = false
is_given event.Stop = true

-- an event that a port may give, as a fact
abbrev pub IsGiven : Event → Type 0
IsGiven what = IsTrue (is_given what)

-- what a call of `next` adds to the story
abbrev pub happenings_of_next : Result Event PortRefused → Option ℕ → List Happening
happenings_of_next (Ok what) want = happening.Given what want ∷ []
happenings_of_next (Err refused) want = []

-- whether a call of `next` failed
abbrev pub is_failed_next : Result Event PortRefused → Bool
is_failed_next (Err PortRefused.Failed) = true
is_failed_next _ = false

-- whether the link is open after one more happening
abbrev pub linked_after : Happening → ℕ → Bool → Bool
linked_after (happening.Given (event.Opened other) want) link before = before || (other == link)
linked_after (happening.Given (event.Closed other) want) link before = before && not (other == link)
linked_after (happening.Dialled peer (Some other)) link before = before || (other == link)
linked_after (happening.Shut other) link before = before && not (other == link)
linked_after _ link before = before

-- whether the link is open after these happenings, where it was or wasn't before
abbrev pub linked_from : Bool → List Happening → ℕ → Bool
linked_from before [] link = before
linked_from before (happened ∷ later) link = linked_from (linked_after happened link before) later link

-- whether the link is open after the story of a port, which begins with no link
abbrev pub is_linked : List Happening → ℕ → Bool
is_linked story link = linked_from false story link

-- where there is an event, it is one that a port may give
abbrev pub MayBeGiven : Option Event → Type 0
MayBeGiven (Some what) = IsGiven what
MayBeGiven None = Unit {0}
