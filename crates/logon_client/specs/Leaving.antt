-- A unit leaves a rest of the challenges that are left before it.
use Rattle.std.proofs.Common.{ℕ, Bool, true, false, List, [], ◌∷◌, refl}
use Rattle.outside.specs.Drawing.{IsRest}
use Rattle.outside.specs.Machine.{left_by}
use Rattle.outside.proofs.DrawLaws.{IsRest-refl, IsRest-nothing}
use Rattle.outside.proofs.MachineLaws.{then_part-rest}
use Rattle.ntlm_flags.specs.Flags.{has_flag, negotiate_key_exch}
use Rattle.end_links.specs.Serving.{ServerLeavesRest}
use Rattle.logon_client.specs.Answering.{drawn_for}
use Rattle.logon_client.specs.declared.hearing.Heard.{Heard}
use Rattle.logon_client.specs.declared.hearing.Heard.TheVariants.{Done, Challenged}
use Rattle.logon_client.specs.Machine.{hear, serve_heard, answers_part, client_server}

drawn_rest : (exchanges : Bool) (left : List (List ℕ)) → IsRest (left_by (drawn_for exchanges left)) left
drawn_rest false [] = IsRest-nothing []
drawn_rest false (client ∷ left) = record { front = client ∷ []; is = refl }
drawn_rest true [] = IsRest-nothing []
drawn_rest true (client ∷ []) = IsRest-nothing (client ∷ [])
drawn_rest true (client ∷ first ∷ []) = IsRest-nothing (client ∷ first ∷ [])
drawn_rest true (client ∷ first ∷ second ∷ left) = record { front = client ∷ first ∷ second ∷ []; is = refl }

pub heard_rest : (what : Heard) (left : List (List ℕ)) → IsRest (left_by (serve_heard what left)) left
heard_rest (Done work talk) left = IsRest-refl left
heard_rest (Challenged work link offer) left =
    then_part-rest (drawn_for (has_flag offer.flags negotiate_key_exch) left) (answers_part offer link work) left
    (λ drawn more. IsRest-refl more) (drawn_rest (has_flag offer.flags negotiate_key_exch) left)

pub client_leaves : ServerLeavesRest client_server
client_leaves = record {
  unit = λ bytes work talk left. heard_rest (hear bytes talk work) left;
  refusal = λ why work talk left. IsRest-refl left;
}
