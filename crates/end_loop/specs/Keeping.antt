-- What becomes of the texts that an end asks to keep (this project's own choice).
use Rattle.std.specs.Prelude.{◌≡◌, ◌↔◌, ℕ, false, List, [], ◌∷◌, map, Some, None}
use Rattle.std.specs.List.{flat_map}
use Rattle.outside.specs.declared.event.Happening.{Happening}
use Rattle.outside.specs.declared.action.Action.{Action}
use Rattle.outside.specs.declared.action.Action.TheVariants.{Keep}
use Rattle.outside.specs.Machine.{Machine}
use Rattle.end_loop.specs.Acts.{Performs, puts, writes_for}
use Rattle.end_loop.specs.Writing.{Write}

-- actions without those that keep a text
abbrev pub without_keeps : List Action → List Action
without_keeps [] = []
without_keeps (Keep text ∷ actions) = without_keeps actions
without_keeps (action ∷ actions) = action ∷ without_keeps actions

-- the text that an action keeps, if it does
abbrev pub text_of : Action → List (List ℕ)
text_of (Keep text) = text ∷ []
text_of _ = []

-- the texts that actions keep, in order
abbrev pub texts_of : List Action → List (List ℕ)
texts_of actions = flat_map text_of actions

-- the write of a text into the file of that name, which went well
abbrev pub write_into : List ℕ → List ℕ → Write
write_into name text = (name, text, false)

-- Of the texts that actions keep each is written, in order, into the file of the name that there is, and none where
-- there is no name. What happens at the port and what is put are the same without the actions that keep a text.
pub record KeepsTexts {S : Type 0} (machine : Machine S) : Type 0 where
  pub named : (name : List ℕ) (actions : List Action) → flat_map (writes_for (Some name)) actions ≡ map (write_into name) (texts_of actions)
  pub unnamed : (actions : List Action) → flat_map (writes_for None) actions ≡ []
  pub happens : (failed : List ℕ) (actions : List Action) (happened : List Happening) → Performs failed actions happened ↔ Performs failed (without_keeps actions) happened
  pub lines : (actions : List Action) → flat_map (puts machine) actions ≡ flat_map (puts machine) (without_keeps actions)
