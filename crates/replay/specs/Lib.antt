pub mod WithinText
