use Rattle.std.proofs.Common.{◌≡◌, ◌++◌, rules}
use Rattle.ntlm_responses.specs.Hashes.{key_v2_of}
use Rattle.ntlm_responses.specs.Responses.{proof_of}
use Rattle.ntlm_responses.proofs.ResponseLaws.{Verifies-proof_of}
use Rattle.ntlm_responses.proofs.responses.respond_v2.Goals as goal

pub returns-clause-verifies : goal.returns-clause-verifies
returns-clause-verifies c =
    let hash = c.args.hash.now in
    let user = c.args.user.now in
    let domain = c.args.domain.now in
    let temp = c.in_ok-temp.temp.items in
    let written : c.from_vec.result ≡ proof_of (key_v2_of hash user domain) c.args.challenge temp ++ temp = search rules in
    rw written (Verifies-proof_of hash user domain c.args.challenge temp c.in_ok-temp.ensures.enough)
