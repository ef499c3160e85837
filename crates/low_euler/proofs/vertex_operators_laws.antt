pub mod SolidRows
pub mod LoneSteps
pub mod CornerSteps
pub mod Corners
pub mod KevSteps
