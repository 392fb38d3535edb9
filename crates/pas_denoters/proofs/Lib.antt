pub mod FieldSeries
