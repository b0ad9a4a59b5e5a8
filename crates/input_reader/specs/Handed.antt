-- What is handed over of a buffer.
use Rattle.std.specs.Prelude.{Bool, true, false, List, []}
use Rattle.store.specs.Store.{StoreOf, contents}

-- those elements that are used, if they are to be read
unfoldable pub handed : {A : Type 0} → Bool → StoreOf A → List A
handed true s = contents s
handed false s = []
