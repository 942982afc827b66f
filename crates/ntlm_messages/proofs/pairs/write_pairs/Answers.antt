use Rattle.ntlm_messages.specs.Pairs.{written_pairs}
use Rattle.ntlm_messages.proofs.PairsLaws.{written_pairs_back}
use Rattle.ntlm_messages.proofs.pairs.write_pairs.Goals as goal

pub returns-clause-read_back : goal.returns-clause-read_back
unfolding written_pairs
returns-clause-read_back c = rw (c.from_vec.ensures, c.in_ok-put_pair.ensures, c.in_ok-out.ensures, c.items.ensures) (written_pairs_back c.args.pairs.now c.requires)
