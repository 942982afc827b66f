-- Lists: what holds of each item of two lists, or of the lists of each item, holds of each item of the lists joined.
use Rattle.std.proofs.Common.{List, [], ◌∷◌, ◌++◌}
use Rattle.std.specs.Prelude.{flat_map}
use Rattle.std.specs.List.{AllByRecursion}

pub all_join : {T : Type 0} (P : T → Type 0) (items more : List T) → AllByRecursion P items → AllByRecursion P more → AllByRecursion P (items ++ more)
all_join P [] more all others = others
all_join P (item ∷ items) more all others = (all.0, all_join P items more all.1 others)

pub all_lists : {T U : Type 0} (P : U → Type 0) (list : T → List U) (items : List T) → AllByRecursion (λ item. AllByRecursion P (list item)) items → AllByRecursion P (flat_map list items)
all_lists P list [] each = tt
all_lists P list (item ∷ items) each = all_join P (list item) (flat_map list items) each.0 (all_lists P list items each.1)

pub all_flat : {T U : Type 0} (P : U → Type 0) (list : T → List U) → ((item : T) → AllByRecursion P (list item)) → (items : List T) → AllByRecursion P (flat_map list items)
all_flat P list each [] = tt
all_flat P list each (item ∷ items) = all_join P (list item) (flat_map list items) (each item) (all_flat P list each items)

pub all_both : {T : Type 0} (P Q : T → Type 0) (items : List T) → AllByRecursion P items → AllByRecursion Q items → AllByRecursion (λ (item : T). P item × Q item) items
all_both P Q [] one other = tt
all_both P Q (item ∷ items) one other = ((one.0, other.0), all_both P Q items one.1 other.1)

pub all_zip : {T : Type 0} (A B C : T → Type 0) (items : List T) → ((item : T) → A item → B item → C item) → AllByRecursion A items → AllByRecursion B items → AllByRecursion C items
all_zip A B C [] so one other = tt
all_zip A B C (item ∷ items) so one other = (so item one.0 other.0, all_zip A B C items so one.1 other.1)
