pub mod FullKit
