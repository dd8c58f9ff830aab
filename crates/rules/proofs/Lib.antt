pub mod Computed
pub mod SmallCases
pub mod TotalsCases
pub mod DayCases
pub mod GiveUpCases
pub mod JournalCases
