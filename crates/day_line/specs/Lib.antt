pub mod DayLine
