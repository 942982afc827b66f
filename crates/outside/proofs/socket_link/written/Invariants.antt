use Rattle.std.proofs.Common.{◌≤◌, length, take}
use Rattle.std.specs.Io.KnownBytes.{Appends}
use Rattle.outside.proofs.socket_link.written.Given as goal

-- what the socket took is the front of so many bytes
abbrev pub invariant-loop : goal.invariant-loop
invariant-loop g l = (l.done ≤ length l.fn.bytes) × Appends (g.T.Write.contents l.initial.stream) (g.T.Write.contents l.stream) (take l.done l.fn.bytes)
