pub mod Numbers
pub mod PutLemmas
pub mod RecordLemmas
pub mod Results
pub mod SortedLemmas
pub mod DigitLemmas
pub mod WritingLemmas
