-- The challenges that a unit leaves are a rest of those that it is given, and at most one fewer.
use Rattle.std.proofs.Common.{◌≡◌, ℕ, ◌+◌, ◌≤◌, List, [], ◌∷◌, length, sym, subst, arith, ap}
use Rattle.outside.proofs.DrawLaws.{IsRest-refl, IsRest-later}
use Rattle.outside.specs.Drawing.{IsRest}
use Rattle.outside.specs.Machine.{left_by}
use Rattle.end_links.proofs.BoundLaws.{nothing_drawn, none_fewer}
use Rattle.end_links.specs.Bounds.{ServerDrawsFew, extra_after}
use Rattle.end_links.specs.Serving.{ServerLeavesRest}
use Rattle.controller_calls.specs.Desk.{Desk}
use Rattle.domain_controller.specs.Hearing.{hear}
use Rattle.domain_controller.specs.Machine.{controller_server, by_heard}
use Rattle.domain_controller.proofs.UnitLaws.{UnitCases, UnitFact, heard_comes}
use Rattle.domain_controller.specs.declared.hearing.Heard.{Heard}

abbrev LeavesRest : List (List ℕ) → UnitFact
LeavesRest left h part = IsRest (left_by part) left

one_less : (server : List ℕ) (rest left : List (List ℕ)) → left ≡ server ∷ rest → IsRest rest left
one_less server rest left is = subst (λ (some : List (List ℕ)). IsRest rest some) (sym is) (IsRest-later server rest rest (IsRest-refl rest))

rest_cases : (link : ℕ) (name : List ℕ) (now : ℕ) (d : Desk) (left : List (List ℕ)) → UnitCases (LeavesRest left) link name now d left
rest_cases link name now d left = record {
  close = λ cause. IsRest-refl left;
  answer = λ bytes talk. IsRest-refl left;
  waits = λ talk. IsRest-refl left;
  spent = λ line c talk is. subst (λ (some : List (List ℕ)). IsRest [] some) (sym is) (IsRest-refl []);
  unknown = λ line c talk server rest is none. one_less server rest left is;
  known = λ line c talk server rest is known. one_less server rest left is;
  denied = λ line c talk status fails none. IsRest-refl left;
  accepted = λ line c talk opens. IsRest-refl left;
  judged = λ line c talk after comes. IsRest-refl left;
}

pub heard_rest : (h : Heard) (link : ℕ) (name : List ℕ) (now : ℕ) (d : Desk) (left : List (List ℕ)) → IsRest (left_by (by_heard h link name now d left)) left
heard_rest h link name now d left = heard_comes (LeavesRest left) link name now d left (rest_cases link name now d left) h

pub server_leaves : (name : List ℕ) (now link : ℕ) → ServerLeavesRest (controller_server name now link)
server_leaves name now link = record {
  unit = λ bytes d talk left. heard_rest (hear link bytes talk) link name now d left;
  refusal = λ why d talk left. IsRest-refl left;
}

-- ---- how many are drawn

-- at most one of these, and nothing more is allowed by what is said on a link
abbrev DrawsOne : List (List ℕ) → UnitFact
DrawsOne left h part = length left + extra_after (λ talk. 0) part ≤ length (left_by part) + 1 + 0

few_cases : (link : ℕ) (name : List ℕ) (now : ℕ) (d : Desk) (left : List (List ℕ)) → UnitCases (DrawsOne left) link name now d left
few_cases link name now d left = record {
  close = λ cause. nothing_drawn (length left) 0;
  answer = λ bytes talk. nothing_drawn (length left) 0;
  waits = λ talk. nothing_drawn (length left) 0;
  spent = λ line c talk is. omega (arith, ap length is);
  unknown = λ line c talk server rest is none. omega (arith, ap length is);
  known = λ line c talk server rest is known. omega (arith, ap length is);
  denied = λ line c talk status fails none. nothing_drawn (length left) 0;
  accepted = λ line c talk opens. nothing_drawn (length left) 0;
  judged = λ line c talk after comes. nothing_drawn (length left) 0;
}

pub server_few : (name : List ℕ) (now link : ℕ) → ServerDrawsFew (controller_server name now link) (λ talk. 0)
server_few name now link = record {
  unit = λ bytes d talk left. heard_comes (DrawsOne left) link name now d left (few_cases link name now d left) (hear link bytes talk);
  refusal = λ why d talk left. none_fewer (length left);
}
