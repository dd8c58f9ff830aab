pub mod DayHandled
