pub mod Unnumbered
