-- What a socket of the port over TCP gives (this project's own choice).
use Rattle.std.specs.Prelude.{nat_le, length, IsTrue}
use Rattle.outside.specs.Links.{most_event_bytes}
use Rattle.outside.specs.declared.socket_link.Came.{Came}
use Rattle.outside.specs.declared.socket_link.Came.TheVariants as came

-- bytes that came are at most those of an event
abbrev pub HasFew : Came → Type 0
HasFew (came.Bytes bytes more) = IsTrue (nat_le (length bytes) most_event_bytes)
HasFew came.Nothing = Unit {0}
HasFew came.End = Unit {0}
