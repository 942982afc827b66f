use Rattle.std.proofs.Common.{refl, arith}
use Rattle.ntlm_seal.specs.declared.side.Side.TheVariants.{Client, Server}
use Rattle.ntlm_seal.specs.Sessions.{session_of}
use Rattle.ntlm_seal.proofs.RunLaws.{open_all-send_all}
use Rattle.ntlm_seal.proofs.session.what_is_sealed_opens.Goals as goal

pub returns-clause-from_any : goal.returns-clause-from_any
returns-clause-from_any c = open_all-send_all

pub returns-clause-to_server : goal.returns-clause-to_server
returns-clause-to_server c exported flags units ranges few =
    open_all-send_all (session_of exported flags Client) (session_of exported flags Server) units (record { sends = refl; receives = refl; direction = refl }) ranges (omega arith)

pub returns-clause-to_client : goal.returns-clause-to_client
returns-clause-to_client c exported flags units ranges few =
    open_all-send_all (session_of exported flags Server) (session_of exported flags Client) units (record { sends = refl; receives = refl; direction = refl }) ranges (omega arith)
