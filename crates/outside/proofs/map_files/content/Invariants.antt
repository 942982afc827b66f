use Rattle.std.proofs.Common.{◌≡◌, drop}
use Rattle.outside.specs.Contents.{content_of}
use Rattle.outside.proofs.map_files.content.Given as goal

-- none of the files before this one has the name
abbrev pub invariant-loop-known : goal.invariant-loop-known
invariant-loop-known l = content_of l.files l.name ≡ content_of (drop l.known-index l.files) l.name
