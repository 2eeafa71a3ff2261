pub mod Visits
pub mod BindSteps
pub mod Contents
pub mod Turns
pub mod Places
