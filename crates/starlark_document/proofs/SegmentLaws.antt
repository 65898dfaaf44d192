-- The laws that segments rest on.
use Rattle.starlark_document.specs.Inner.LexedFronts.{ItemsAreFound, ItemsClose, ItemsCut}
use Rattle.starlark_document.proofs.ClosingItems as items

pub items_cut : ItemsCut
items_cut = items.items_cut

pub items_close : ItemsClose
items_close = items.items_close

pub items_are_found : ItemsAreFound
items_are_found = items.items_are_found
