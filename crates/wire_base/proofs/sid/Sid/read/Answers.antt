use Rattle.std.proofs.Common.{◌≡◌, Ok, Err}
use Rattle.wire_base.specs.declared.sid.SidRefused.TheVariants.{NotSid, Memory}
use Rattle.wire_base.specs.Sid.{IsSidText, sid_of}
use Rattle.wire_base.proofs.MemoryLaws.{UpToMemory-found, UpToMemory-same, UpToMemory-refused}
use Rattle.wire_base.proofs.SidLaws.{IsSidText-sid_of, sid_of-IsSidText}
use Rattle.wire_base.proofs.sid.Sid.read.Goals as goal

pub returns-clause-found : goal.returns-clause-found
returns-clause-found c = UpToMemory-found _ _ _ (IsSidText c.args.text.now) (IsSidText-sid_of c.args.text.now) c.read_text.ensures.exact

pub returns-clause-only : goal.returns-clause-only
returns-clause-only c sid written = UpToMemory-same _ _ _ _ (sid_of-IsSidText c.args.text.now sid written) c.read_text.ensures.exact

pub returns-clause-not_sid : goal.returns-clause-not_sid
returns-clause-not_sid c refused sid written =
    let read : sid_of c.args.text.now ≡ Ok sid = sid_of-IsSidText c.args.text.now sid written in
    let other : sid_of c.args.text.now ≡ Err NotSid = UpToMemory-refused Memory NotSid _ _ (λ e. cc) c.read_text.ensures.exact refused in
    cc
