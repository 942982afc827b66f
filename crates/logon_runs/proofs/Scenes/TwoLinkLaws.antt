-- The link of a turn beside that of its client.
-- Of `turns_have_links`.
use Rattle.std.proofs.Common.{◌≡◌, ◌≢◌, ℕ, ◌<◌, eqb, Bool, true, false, [], ◌∷◌, length, Some, None, ap, ◌∙◌, arith, if◌then◌else◌}
use Rattle.std.proofs.lemmas.Bool.Decides.{nat_tests}
use Rattle.wire_base.specs.Maps.{lookup, put, same_number, take_out}
use Rattle.wire_base.proofs.ListLaws.{got_append, got_last}
use Rattle.world_moves.specs.declared.links.OpenLink.{OpenLink}
use Rattle.world_moves.specs.declared.links.Route.TheVariants.{ToController, ToMember}
use Rattle.world_moves.specs.Links.{OpenMap, accepted, answered}
use Rattle.logon_steps.proofs.StreamLaws.{same}
use Rattle.logon_runs.specs.Scenes.LinkScenes.{Meeting}
use Rattle.logon_runs.specs.Scenes.TurnScenes.{TurnScene}
use Rattle.logon_runs.specs.Scenes.TwoLinks.{HasMet, TurnsHaveLinks}
use Rattle.domain_controller.proofs.TurnOutLaws.{got_inside}

differs : (one other : ℕ) → other < one → eqb one other ≡ false
differs one other below = grind (arith, nat_tests)

not_same : (one other : ℕ) → other < one → one ≢ other
not_same one other below is = absurd (omega (arith, below, is))

-- ---- maps of two

module _ {V : Type 0} (one other : ℕ) (there new done : V) (is : eqb one other ≡ false) where
  found_second : lookup same_number one ((other, there) ∷ (one, new) ∷ []) ≡ Some new
  found_second =
      ap (λ (b : Bool). if b then Some there else (if eqb one one then Some new else None)) is
      ∙ ap (λ (b : Bool). if b then Some new else None) (same one)

  put_second : put same_number one done ((other, there) ∷ (one, new) ∷ []) ≡ (other, there) ∷ (one, done) ∷ []
  put_second =
      ap (λ (b : Bool). if b then (one, done) ∷ (one, new) ∷ [] else (other, there) ∷ put same_number one done ((one, new) ∷ [])) is
      ∙ ap (λ (b : Bool). (other, there) ∷ (if b then (one, done) ∷ [] else (one, new) ∷ (one, done) ∷ [])) (same one)

  without_second : take_out same_number one ((other, there) ∷ (one, new) ∷ []) ≡ (other, there) ∷ []
  without_second =
      ap (λ (b : Bool). if b then (one, new) ∷ [] else (other, there) ∷ take_out same_number one ((one, new) ∷ [])) is
      ∙ ap (λ (b : Bool). (other, there) ∷ (if b then [] else (one, new) ∷ [])) (same one)

  found_first : lookup same_number other ((other, there) ∷ (one, new) ∷ []) ≡ Some there
  found_first = ap (λ (b : Bool). if b then Some there else lookup same_number other ((one, new) ∷ [])) (same other)

  not_there : take_out same_number one ((other, there) ∷ []) ≡ (other, there) ∷ []
  not_there = ap (λ (b : Bool). if b then [] else (other, there) ∷ []) is

-- ---- the link of the turn

abbrev there_of : Meeting → OpenLink
there_of g = record { route = ToMember g.at_client g.at_member; dialler = true; acceptor = true }

abbrev new_of : TurnScene → OpenLink
new_of t = accepted (ToController t.at_member t.at_controller)

below : (g : Meeting) (t : TurnScene) → HasMet g t → g.link < length t.links
below g t is = got_inside t.links g.link (ToMember g.at_client g.at_member) is

apart_so : (g : Meeting) (t : TurnScene) → HasMet g t → eqb (length t.links) g.link ≡ false
apart_so g t is = differs (length t.links) g.link (below g t is)

pub turns_have_links : TurnsHaveLinks
turns_have_links = record {
  found = λ g t is. found_second (length t.links) g.link (there_of g) (new_of t) (new_of t) (apart_so g t is);
  new = λ g t talk is. not_there (length t.links) g.link (record { rest = []; talk = talk }) (record { rest = []; talk = talk }) (record { rest = []; talk = talk }) (apart_so g t is);
  between = λ g t how is. record {
    route = got_last t.links (ToController t.at_member t.at_controller);
    opened =
        ap (λ (o : OpenMap). lookup same_number (length t.links) o) (put_second (length t.links) g.link (there_of g) (new_of t) (answered (new_of t)) (apart_so g t is))
        ∙ found_second (length t.links) g.link (there_of g) (answered (new_of t)) (new_of t) (apart_so g t is);
  };
  own = λ g t how is.
      ap (λ (o : OpenMap). lookup same_number g.link o) (put_second (length t.links) g.link (there_of g) (new_of t) (answered (new_of t)) (apart_so g t is))
      ∙ found_first (length t.links) g.link (there_of g) (answered (new_of t)) (new_of t) (apart_so g t is);
  apart = λ g t is. not_same (length t.links) g.link (below g t is);
  taken = λ g t how is.
      ap (λ (o : OpenMap). take_out same_number (length t.links) o) (put_second (length t.links) g.link (there_of g) (new_of t) (answered (new_of t)) (apart_so g t is))
      ∙ without_second (length t.links) g.link (there_of g) (answered (new_of t)) (new_of t) (apart_so g t is);
  met = λ g t how is. got_append t.links (ToController t.at_member t.at_controller ∷ []) g.link (ToMember g.at_client g.at_member) is;
}
