pub mod MoreFiles
