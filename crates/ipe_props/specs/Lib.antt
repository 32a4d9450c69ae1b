pub mod Signedness
