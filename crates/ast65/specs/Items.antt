-- The contract view of lists of data.
use Rattle.std.specs.Prelude.{ℕ, List, map}
use Rattle.syntax65.specs.Trees.{number}
use Rattle.ast65.specs.declared.language.Item.{Item}
use Rattle.ast65.specs.declared.language.Item.TheVariants.{Value}
use Rattle.ast65.specs.declared.language.ItemsKind.{ItemsKind}
use Rattle.ast65.specs.declared.language.ItemsKind.TheVariants.{Numbers, Mixed}

abbrev pub literal_item : ℕ → Item
literal_item n = Value (number n)

abbrev pub items_of : ItemsKind → List Item
items_of (Numbers numbers) = map literal_item numbers
items_of (Mixed items) = items
