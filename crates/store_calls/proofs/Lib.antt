mod OpenedLemmas
mod ListedLemmas
mod NumberLemmas
mod DayLemmas
