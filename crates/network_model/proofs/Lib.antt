pub mod ListLaws
pub mod Fronts
pub mod Causes
pub mod EntryLaws
pub mod PortPlaces
pub mod RowLaws
pub mod HopLaws
pub mod WorldLaws
pub mod Lawful
pub mod JournalLaws
pub mod MachineLaws
pub mod RecordsLaws
mod MachineRows
mod NetworkRows
pub mod Common
