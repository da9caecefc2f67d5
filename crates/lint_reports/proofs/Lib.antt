pub mod ReportLemmas
mod SourceLemmas
mod SizeLemmas
