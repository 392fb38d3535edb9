mod AddressesAreListed
mod AsideTouchesStay
mod BlocksAreMarked
mod BlocksChange
mod FoundGoesOn
mod ListsGoOn
pub mod OneMoreTouch
mod PagesKeepCells
mod RisingEntriesAreListed
pub mod SlicesGoOn
mod TouchesAddUp
mod TouchesMark
