pub mod DayMoved
