use Rattle.sam_logon.proofs.granting.is_key.Goals as goal

pub returns : goal.returns
returns c = (c.told-key, c.are_bytes.ensures)
