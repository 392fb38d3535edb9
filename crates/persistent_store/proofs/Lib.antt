pub mod NodeLemmas
pub mod MapLemmas
